-- Sets that are built step by step: a step never shortens a set and never takes it past the room; and what the words hold
-- after some steps, with what is to come, is what is wanted.
-- Assumes nothing.
use Rattle.std.specs.Prelude.{Option, Some, None, Result, Ok, Err, IsErr}
use mathlib.Core.Path.{◌≡◌, refl, sym, ap, ap₂, ◌∙◌, ◌≡⟨◌⟩◌, ◌∎}
use mathlib.Core.Bool.{Bool, true, false}
use mathlib.Core.List.{List, [], ◌∷◌, ◌++◌}
use Prim.Native.Nat.{ℕ, suc, ◌+◌, ◌-◌, ◌≤◌, ◌<◌, max}
use native.Mathlib.Omega.{arith}
use borrow.Author.Tests.{ltb-true}
use lib.Dec.{ltb}
use lib.ListN.{length, length-append, length-take, length-drop}
use Rattle.labels.specs.declared.Label.{Label}
use Rattle.labels.specs.Packing.{code}
use Rattle.sets.specs.declared.TooLarge.{TooLarge}
use Rattle.parts.specs.Parts.{set_at, laid, room_at, reach_of}
use Rattle.sets.specs.Inserting.{present, put_in, pick_inserted, inserted, Entered}
use Rattle.sets.specs.Building.{Building, done, stopped, pick_built, answer_of, goes_on, and_then, each, followed_by, enter, taken, summed, Grown}
use Rattle.parts.proofs.LaidSets.{Fits, length-set_at, laid-self, length-laid, set_at-laid, laid-laid}

-- The length of a set under each step.
pub length-put_in : (s : List ℕ) (w : ℕ) → length (put_in s w) ≡ suc (length s)
length-put_in s w = simp (length-append, length-take, length-drop) (omega arith)

added-room : (there roomy : Bool) → pick_inserted there roomy ≡ Ok true → roomy ≡ true
added-room true roomy e = cc
added-room false true e = refl
added-room false false e = cc

pub inserted-room : (room w : ℕ) (s : List ℕ) → inserted room w s ≡ Ok true → length s < room
unfolding inserted
inserted-room room w s e = ltb-true (length s) room (added-room (present s w) (ltb (length s) room) e)

unfoldable pub Steady : ℕ → (List ℕ → Building) → Type 0
Steady room f = (s : List ℕ) → (length s ≤ length (f s).set) × (length (f s).set ≤ max (length s) room)

module _ (room : ℕ) where
  pub steady-done : Steady room done
  unfolding Steady
  steady-done s = omega arith

  pub steady-next : (f g : List ℕ → Building) → Steady room f → Steady room g → Steady room (λ s. and_then (f s) g)
  unfolding Steady
  steady-next f g p q s = go (f s).whole
    where
      go : (t : Bool) → (length s ≤ length (goes_on t (f s) g).set) × (length (goes_on t (f s) g).set ≤ max (length s) room)
      go true = let a = p s in let b = q (f s).set in omega arith
      go false = p s

  pub steady-each : (step : ℕ → List ℕ → Building) (ws : List ℕ) → ((w : ℕ) → Steady room (step w)) → Steady room (each step ws)
  unfolding each
  steady-each step [] p = steady-done
  steady-each step (w ∷ ws) p = steady-next (step w) (each step ws) (p w) (steady-each step ws p)

  pub steady-followed : (w : ℕ) (more : List ℕ → Building) → Steady room more → Steady room (λ s. followed_by (inserted room w s) w more s)
  unfolding Steady
  steady-followed w more p s = go (inserted room w s) refl
    where
      go : (o : Result Bool TooLarge) → inserted room w s ≡ o
          → (length s ≤ length (followed_by o w more s).set) × (length (followed_by o w more s).set ≤ max (length s) room)
      go (Err f) e = omega arith
      go (Ok false) e = omega arith
      go (Ok true) e =
          let l = inserted-room room w s e in
          let k = length-put_in s w in
          let q = p (put_in s w) in
          omega arith

  pub steady-taken : (step : ℕ → List ℕ → Building) (o : Option Label) → ((w : ℕ) → Steady room (step w)) → Steady room (taken step o)
  steady-taken step None p = steady-done
  steady-taken step (Some a) p = p (code a)

  pub steady-summed : (step : ℕ → List ℕ → Building) (o : Option Label) → ((w : ℕ) → Steady room (step w)) → Steady room (summed step o)
  unfolding Steady
  steady-summed step None p = λ s. omega arith
  steady-summed step (Some a) p = p (code a)

  pub steady-enter : (w : ℕ) → Steady room (enter room w)
  steady-enter w = steady-followed w done steady-done

-- What a `?` hands on, of whichever answer: an error of sets has one value.
pub handed_on : {X : Type 0} (r : Result X TooLarge) → IsErr r → r ≡ Err (record {})
handed_on (Ok x) h = cc
handed_on (Err e) h = refl

-- What an answer says of the set.
pub built-holds : (t : Bool) (m n : ℕ) → Ok n ≡ pick_built t m → (t ≡ true) × (n ≡ m)
built-holds true m n e = (refl, cc)
built-holds false m n e = (cc, cc)

pub built-large : (t : Bool) (m : ℕ) → Err (record {}) ≡ pick_built t m → t ≡ false
built-large true m e = cc
built-large false m e = refl

pub next-holds : (b : Building) (more : List ℕ → Building) (n : ℕ) → Ok n ≡ answer_of b
    → (and_then b more ≡ more b.set) × (n ≡ length b.set)
next-holds b more n e = let p = built-holds b.whole (length b.set) n e in (ap (λ (t : Bool). goes_on t b more) p.0, p.1)

pub next-large : (b : Building) (more : List ℕ → Building) → Err (record {}) ≡ answer_of b → and_then b more ≡ b
next-large b more e = ap (λ (t : Bool). goes_on t b more) (built-large b.whole (length b.set) e)

-- Steps after steps, and the labels of two lists one after the other.
pub next-next : (b : Building) (f g : List ℕ → Building) → and_then (and_then b f) g ≡ and_then b (λ s. and_then (f s) g)
next-next b f g = go b.whole refl
  where
    go : (t : Bool) → b.whole ≡ t → and_then (goes_on t b f) g ≡ goes_on t b (λ s. and_then (f s) g)
    go true e = refl
    go false e = ap (λ (t : Bool). goes_on t b g) e

next-as : (b : Building) {f g : List ℕ → Building} → ((s : List ℕ) → f s ≡ g s) → and_then b f ≡ and_then b g
next-as b {f} {g} h = go b.whole
  where
    go : (t : Bool) → goes_on t b f ≡ goes_on t b g
    go true = h b.set
    go false = refl

pub each_append : (step : ℕ → List ℕ → Building) (l m s : List ℕ) → each step (l ++ m) s ≡ and_then (each step l s) (each step m)
unfolding each
each_append step [] m s = refl
each_append step (w ∷ l) m s =
    next-as (step w s) (each_append step l m) ∙ sym (next-next (step w s) (each step l) (each step m))

-- What is laid of a building.
pub laid-set : (at : ℕ) (ls : List ℕ) {b c : Building} → b ≡ c → laid at b.set ls ≡ laid at c.set ls
laid-set at ls e = ap (λ (b : Building). laid at b.set ls) e

-- The words hold a set as far as it is built; what is to come makes the goal of it.
pub record Going (at : ℕ) (before now : List ℕ) (len : ℕ) (rest : List ℕ → Building) (goal : Building) : Type 0 where
  pub set : List ℕ
  pub held : now ≡ laid at set before
  pub count : len ≡ length set
  pub fits : Fits at set before
  pub goes : rest set ≡ goal

pub going_start : (at : ℕ) (ls : List ℕ) (len : ℕ) (build : List ℕ → Building) → len ≤ length ls - at
    → Going at ls ls len build (build (set_at at len ls))
going_start at ls len build h = record {
  set = set_at at len ls;
  held = sym (laid-self at len ls);
  count = let l = length-set_at at len ls in omega arith;
  fits = let l = length-set_at at len ls in omega arith;
  goes = refl;
}

module _ {at len : ℕ} {before now : List ℕ} {rest : List ℕ → Building} {goal : Building} where
  pub going-length : Going at before now len rest goal → (length now ≡ length before) × (len ≤ length now - at)
  going-length x =
      let e = ap length x.held ∙ length-laid at x.set before x.fits in
      (e, let f = x.fits in let c = x.count in omega arith)

  -- the end, and a step that is stopped before any label
  pub going_end : Going at before now len rest goal → ((s : List ℕ) → rest s ≡ done s)
      → (Ok len ≡ answer_of goal) × (now ≡ laid at goal.set before)
  going_end x h =
      let e = sym (h x.set) ∙ x.goes in
      (ap Ok x.count ∙ ap answer_of e, x.held ∙ laid-set at before e)

  pub going-stop : Going at before now len rest goal → ((s : List ℕ) → rest s ≡ stopped s)
      → (Err (record {}) ≡ answer_of goal) × (now ≡ laid at goal.set before)
  going-stop x h =
      let e = sym (h x.set) ∙ x.goes in
      (ap answer_of e, x.held ∙ laid-set at before e)

  -- what is to come, said otherwise
  pub going-as : (other : List ℕ → Building) → Going at before now len rest goal → ((s : List ℕ) → rest s ≡ other s)
      → Going at before now len other goal
  going-as other x h = record { set = x.set; held = x.held; count = x.count; fits = x.fits; goes = sym (h x.set) ∙ x.goes }

-- A step that a function takes at the words as they are: whatever is to come, it is the step at the set; it leads on, or
-- stops, or is all that was to come.
module _ (most : ℕ) (step : ℕ → List ℕ → Building)
    {at len : ℕ} {before now after : List ℕ} {r : Result ℕ TooLarge} {rest : List ℕ → Building} {goal : Building}
    (steady : (room : ℕ) → Steady room (step room)) (x : Going at before now len rest goal)
    (g : Grown (step (room_at at most (length now))) at len now after r) where
  abbrev stepped : Building
  stepped = step (room_at at most (length before)) x.set

  step_same : step (room_at at most (length now)) (set_at at len now) ≡ stepped
  step_same =
      ap₂ (λ (n : ℕ) (s : List ℕ). step (room_at at most n) s) (going-length x).0
      (ap₂ (λ (n : ℕ) (l : List ℕ). set_at at n l) x.count x.held ∙ set_at-laid at x.set before x.fits)

  step-bounds : (length x.set ≤ length stepped.set) × (length stepped.set ≤ length before - at)
  unfolding Steady
  step-bounds = let p = steady (room_at at most (length before)) x.set in let f = x.fits in omega arith

  step-answer : r ≡ answer_of stepped
  step-answer = g.answer ∙ ap answer_of step_same

  step_words : after ≡ laid at stepped.set before
  step_words =
      after
      ≡⟨ g.words ⟩ laid at (step (room_at at most (length now)) (set_at at len now)).set now
      ≡⟨ ap₂ (λ (b : Building) (l : List ℕ). laid at b.set l) step_same x.held ⟩ laid at stepped.set (laid at x.set before)
      ≡⟨ laid-laid at x.set before x.fits stepped.set step-bounds.0 ⟩ laid at stepped.set before ∎

module _ (most : ℕ) (step : ℕ → List ℕ → Building) (rest : List ℕ → Building)
    {at len : ℕ} {before now after : List ℕ} {r : Result ℕ TooLarge} {goal : Building}
    (steady : (room : ℕ) → Steady room (step room))
    (x : Going at before now len (λ s. and_then (step (room_at at most (length before)) s) rest) goal)
    (g : Grown (step (room_at at most (length now))) at len now after r) where
  pub going-holds : (n : ℕ) → r ≡ Ok n → Going at before after n rest goal
  going-holds n e =
      let b = step (room_at at most (length before)) x.set in
      let p = next-holds b rest n (sym e ∙ step-answer most step steady x g) in
      record {
        set = b.set;
        held = step_words most step steady x g;
        count = p.1;
        fits = (step-bounds most step steady x g).1;
        goes = sym p.0 ∙ x.goes;
      }

  pub going-large : r ≡ Err (record {}) → (Err (record {}) ≡ answer_of goal) × (after ≡ laid at goal.set before)
  going-large e =
      let a = sym e ∙ step-answer most step steady x g in
      let q = sym (next-large (step (room_at at most (length before)) x.set) rest a) ∙ x.goes in
      (a ∙ ap answer_of q, step_words most step steady x g ∙ laid-set at before q)

pub going-last : (most : ℕ) (step : ℕ → List ℕ → Building)
    {at len : ℕ} {before now after : List ℕ} {r : Result ℕ TooLarge} {goal : Building}
    → ((room : ℕ) → Steady room (step room))
    → Going at before now len (step (room_at at most (length before))) goal
    → Grown (step (room_at at most (length now))) at len now after r
    → (r ≡ answer_of goal) × (after ≡ laid at goal.set before)
going-last most step {at} {before = before} steady x g =
    (step-answer most step steady x g ∙ ap answer_of x.goes, step_words most step steady x g ∙ laid-set at before x.goes)

-- The first of two steps: it stops, or leads on to the second.
module _ (at len : ℕ) (first rest : List ℕ → Building) (before now : List ℕ) where
  pub first-large : Grown first at len before now (Err (record {})) → Grown (λ s. and_then (first s) rest) at len before now (Err (record {}))
  first-large x =
      let e = next-large (first (set_at at len before)) rest x.answer in
      record { answer = x.answer ∙ ap answer_of (sym e); words = x.words ∙ laid-set at before (sym e) }

  pub first_holds : (n : ℕ) → length (first (set_at at len before)).set ≤ length before - at → Grown first at len before now (Ok n)
      → Going at before now n rest (and_then (first (set_at at len before)) rest)
  first_holds n fits x =
      let b = first (set_at at len before) in
      record {
        set = b.set;
        held = x.words;
        count = (built-holds b.whole (length b.set) n x.answer).1;
        fits = fits;
        goes = sym (next-holds b rest n x.answer).0;
      }

-- a step that keeps a set within the room keeps it within the list
pub steady-fits : (at len most : ℕ) (first : List ℕ → Building) (before : List ℕ) → Steady (room_at at most (length before)) first
    → length (first (set_at at len before)).set ≤ length before - at
unfolding Steady
steady-fits at len most first before steady =
    let h = steady (set_at at len before) in
    let l = length-set_at at len before in
    omega arith

pub grown-as : {f g : List ℕ → Building} {at len : ℕ} {before after : List ℕ} {r : Result ℕ TooLarge} → ((s : List ℕ) → f s ≡ g s)
    → Grown f at len before after r → Grown g at len before after r
grown-as {at = at} {len} {before} h x =
    let e = h (set_at at len before) in
    record { answer = x.answer ∙ ap answer_of e; words = x.words ∙ laid-set at before e }

-- What follows an insertion.
abbrev pub inserted_then : ℕ → ℕ → (List ℕ → Building) → List ℕ → Building
inserted_then room w more s = followed_by (inserted room w s) w more s

module _ {at len most w : ℕ} {ls after : List ℕ} {o : Result Bool TooLarge} (x : Entered at len most w ls after o) where
  abbrev room : ℕ
  room = room_at at most (length ls)

  pub followed-stops : (more : List ℕ → Building) → o ≡ Err (record {}) → Grown (inserted_then room w more) at len ls after (Err (record {}))
  followed-stops more e = let i = sym x.answer ∙ e in record { answer = rw i; words = x.words ∙ rw (e, i) }

  module _ (count : ℕ) (reached : count ≡ reach_of at len (length ls)) where
    pub followed-stays : (more : List ℕ → Building) → o ≡ Ok false → Grown (inserted_then room w more) at len ls after (Ok count)
    followed-stays more e =
        let i = sym x.answer ∙ e in
        let l : count ≡ length (set_at at len ls) = reached ∙ sym (length-set_at at len ls) in
        record { answer = rw i (ap Ok l); words = x.words ∙ rw (e, i) }

    -- a label was put in: what goes on from there
    pub followed-going : (more : List ℕ → Building) → o ≡ Ok true
        → Going at ls after (count + 1) more (inserted_then room w more (set_at at len ls))
    followed-going more e =
        let i = sym x.answer ∙ e in
        let k = length-put_in (set_at at len ls) w in
        let l = length-set_at at len ls in
        let roomy = inserted-room room w (set_at at len ls) i in
        record { set = put_in (set_at at len ls) w; held = x.words ∙ rw e; count = omega arith; fits = omega arith; goes = rw i }

    pub followed-ends : o ≡ Ok true → Grown (enter room w) at len ls after (Ok (count + 1))
    followed-ends e = let p = going_end (followed-going done e) (λ s. refl) in record { answer = p.0; words = p.1 }
