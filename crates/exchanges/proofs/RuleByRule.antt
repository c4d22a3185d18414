-- The label of a state and what comes of it, put into a set beside a memory of states: a state that is known, the label first, and
-- the loop over the rules.
-- Assumes nothing.
use Rattle.std.specs.Prelude.{Option, Some, None, Result, Ok, Err}
use mathlib.Core.Path.{◌≡◌, refl, sym, ap, ap₂, subst, ◌∙◌}
use mathlib.Core.Bool.{Bool, true, false}
use mathlib.Core.List.{List, [], ◌∷◌, ◌++◌, append_assoc, append-nil}
use Prim.Native.Nat.{ℕ, zero, suc, ◌-◌, ◌≤◌, ◌<◌}
use native.Mathlib.Nat.{le_refl}
use native.Mathlib.Decide.{dec_lt}
use native.Mathlib.Omega.{arith}
use lib.ListN.{length}
use lib.Seq.{take_all}
use Rattle.meaning.specs.Sets.{◌∈◌}
use Rattle.labels.specs.Packing.{code}
use Rattle.labels.proofs.Codes.{code-packed}
use Rattle.parts.specs.declared.Target.{Target}
use Rattle.parts.specs.Parts.{set_at, words_of}
use Rattle.sets.specs.declared.TooLarge.{TooLarge}
use Rattle.sets.specs.Building.{answer_of, each, enter, GrownAt}
use Rattle.sets.specs.Inserting.{present}
use Rattle.sets.proofs.Steps.{laid-set}
use Rattle.sets.proofs.Presence.{entered-there, entered-has}
use Rattle.extents.specs.Extents.{at_start}
use Rattle.rules.specs.declared.State.{State}
use Rattle.rules.specs.Rules.{Exchange, exchange_at, exchanges_before, replaced_by, applies, pick_step, step_of}
use Rattle.choices.specs.Following.{after, each_rule, comes_of}
use Rattle.choices.proofs.Unfolding.{applies→, next, comes-step}
use Rattle.memory.specs.Memory.{known_in, remembered, Recalls}
use Rattle.memory.proofs.Recalling.{known→there, known→some, remembered-recalls, length-remembered}
use Rattle.exchanges.specs.Following.{Walking, Walked}
use Rattle.exchanges.proofs.Walking.{room_in, same_count, recalls-small, walked_none, walked_one, walked_as}
use Rattle.exchanges.proofs.Walking.{walked_whole, walked-set, walked_on, walked_then, walked-stops}

-- where a rule leads, asked of the whole operand as a part of itself
pub step-whole : (all : List ℕ) (rule : Exchange) (rest sum : ℕ) {end : ℕ} {made : Option State} → end ≡ length all
    → made ≡ step_of (words_of end (record { from = 0; to = end }) all) rule rest sum → made ≡ step_of all rule rest sum
step-whole all rule rest sum e made =
    let whole = take_all (length all) all (le_refl (length all)) in
    rw (e, whole, whole) at made

-- What the rules before a place make of a state, but for its own label.
abbrev to_come : (all ls : List ℕ) → (place rest sum : ℕ) → List ℕ
to_come all ls place rest sum = each_rule (comes_of all) all (exchanges_before ls place) rest sum

-- A state: it is known, or its label is put in, and then what comes of it.
module _ {len : ℕ} {all ls before states : List ℕ} (place rest sum : ℕ) (x : Walking len all ls before states) where
  abbrev labels : List ℕ
  labels = comes_of all (exchanges_before ls place) rest sum

  abbrev Put : List ℕ → List ℕ → Result ℕ TooLarge → Type 0
  Put last kept r = Walked labels len all ls before last kept r

  pub put-known : {found : Bool} → found ≡ known_in states ls place rest sum → found ≡ true → Put before states (Ok len)
  unfolding each
  put-known answer found =
      let known = sym answer ∙ found in
      let start = set_at 0 len before in
      let risen = x.rising (known→some states ls place rest sum known) in
      let same = entered-there (room_in before) labels start risen (known→there all ls states start place rest sum x.recalls known) in
      let none = walked_none x in
      record {
        grown = record { answer = none.grown.answer ∙ ap answer_of (sym same); words = none.grown.words ∙ laid-set 0 before (sym same) };
        recalls = none.recalls;
      }

  -- the label is put in at the start of the words
  module _ {target : Target} (start : target ≡ at_start len) {now : List ℕ} {r : Result ℕ TooLarge}
      (g : GrownAt target (λ room. enter room sum) before now r) where
    first : Walked (sum ∷ []) len all ls before now states r
    first = walked_one sum x (subst (λ (t : Target). GrownAt t (λ room. enter room sum) before now r) start g)

    first_then : (sum ∷ []) ++ to_come all ls place rest sum ≡ labels
    first_then = sym (comes-step all (exchanges_before ls place) rest sum)

    pub put-large : {kept : List ℕ} → r ≡ Err (record {}) → Put now kept (Err (record {}))
    put-large e =
        walked_as first_then (walked-stops (to_come all ls place rest sum) (subst (Walked (sum ∷ []) len all ls before now states) e first))

    module _ {n : ℕ} (e : r ≡ Ok n) where
      first-held : Walked (sum ∷ []) len all ls before now states (Ok n)
      first-held = subst (Walked (sum ∷ []) len all ls before now states) e first

      pub put-walking : Walking n all ls now states
      put-walking = walked_on first-held x refl

      module _ {last kept : List ℕ} {end : Result ℕ TooLarge} (f : Walked (to_come all ls place rest sum) n all ls now last kept end) where
        put-walked : Put last kept end
        put-walked = walked_as first_then (walked_then first-held f)

        pub put-stops : end ≡ Err (record {}) → Put last kept (Err (record {}))
        put-stops d = subst (λ (b : Result ℕ TooLarge). Put last kept b) d put-walked

        -- the state is kept
        pub put-done : {m : ℕ} → end ≡ Ok m → length kept ≡ length states → {later : List ℕ} → later ≡ remembered kept place rest sum
            → Put last later (Ok m)
        put-done {m} d long {later} same = record {
          grown = whole.grown;
          recalls = λ k c. subst (λ (j : ℕ). Recalls all ls later (set_at 0 j last)) (same_count c)
              (subst (λ (l : List ℕ). Recalls all ls l (set_at 0 m last)) (sym same) (pick (dec_lt 2 (length states))));
        }
          where
            whole : Put last kept (Ok m)
            whole = subst (λ (b : Result ℕ TooLarge). Put last kept b) d put-walked

            pick : Dec (2 < length states) → Recalls all ls (remembered kept place rest sum) (set_at 0 m last)
            pick (yes h) =
                remembered-recalls all ls kept (set_at 0 m last) place rest sum (whole.recalls m refl)
                (λ v i. subst (λ (l : List ℕ). v ∈ l) (sym (walked-set whole))
                (entered-has (room_in before) labels (set_at 0 len before) (x.rising h) (walked_whole whole) v i))
            pick (no h) =
                recalls-small all ls (remembered kept place rest sum) (set_at 0 m last) (omega (arith, length-remembered kept place rest sum))

-- The loop over the rules: some labels are put in, and what the rules before the i-th label of the list make of the state is to come.
pub record Following (len rest sum : ℕ) (all ls before : List ℕ) (place : ℕ) (states now : List ℕ) (count i : ℕ) : Type 0 where
  pub labels : List ℕ
  pub whole : labels ++ to_come all ls i rest sum ≡ to_come all ls place rest sum
  pub walked : Walked labels len all ls before now states (Ok count)
  pub walking : Walking count all ls now states

pub following-start : {len : ℕ} {all ls before states : List ℕ} (place rest sum : ℕ) → Walking len all ls before states
    → Following len rest sum all ls before place states before len place
following-start place rest sum x = record { labels = []; whole = refl; walked = walked_none x; walking = x }

before-cons : (ls : List ℕ) (i : ℕ) → 2 ≤ i → exchanges_before ls i ≡ exchange_at ls (i - 2) ∷ exchanges_before ls (i - 2)
unfolding exchanges_before
before-cons ls i h = let e : i ≡ suc (suc (i - 2)) = omega arith in ap (exchanges_before ls) e

before-nil : (ls : List ℕ) (i : ℕ) → i < 2 → exchanges_before ls i ≡ []
unfolding exchanges_before
before-nil ls zero h = refl
before-nil ls (suc zero) h = refl
before-nil ls (suc (suc i)) h = absurd (omega arith)

never : {s : State} → ◌≡◌ {A = Option State} (Some s) None → ⊥
never e = let z : ◌≡◌ {A = ℕ} 0 1 = cc in omega arith

same-state : {s t : State} → ◌≡◌ {A = Option State} (Some s) (Some t) → s ≡ t
same-state e = cc

step_less : (all : List ℕ) (rule : Exchange) (rest sum : ℕ) {s : State} → Some s ≡ step_of all rule rest sum → code s.rest < rest
step_less all rule rest sum {s} = go (applies rule rest) refl (present all (replaced_by rule sum))
  where
    go : (t : Bool) → applies rule rest ≡ t → (k : Bool) → Some s ≡ pick_step t k (next all rule rest sum) → code s.rest < rest
    go false d k e = absurd (never e)
    go true d true e = absurd (never e)
    go true d false e = let l = (applies→ rule rest d).less in rw (ap (λ (q : State). code q.rest) (same-state e) ∙ code-packed (rest - rule.left)) l

module _ {len rest sum : ℕ} {all ls before : List ℕ} {place : ℕ} {states now : List ℕ} {count i : ℕ}
    (x : Following len rest sum all ls before place states now count i) where
  abbrev goal : List ℕ
  goal = to_come all ls place rest sum

  pub following-end : i < 2 → Walked goal len all ls before now states (Ok count)
  unfolding each_rule
  following-end h =
      let none = ap (λ (rs : List Exchange). x.labels ++ each_rule (comes_of all) all rs rest sum) (before-nil ls i h) in
      walked_as (sym (append-nil x.labels) ∙ sym none ∙ x.whole) x.walked

  -- what the next rule leads to, and then the rules behind it
  module _ (h : 2 ≤ i) {made : Option State} (leads : made ≡ step_of all (exchange_at ls (i - 2)) rest sum) where
    abbrev from_here : ℕ → ℕ → List ℕ
    from_here = comes_of all (exchanges_before ls i)

    abbrev later : List ℕ
    later = to_come all ls (i - 2) rest sum

    next-to-come : to_come all ls i rest sum ≡ after from_here made ++ later
    unfolding each_rule
    next-to-come =
        let e = before-cons ls i h in
        ap (λ (rs : List Exchange). each_rule (comes_of all) all rs rest sum) e
        ∙ ap₂ (λ (rs : List Exchange) (m : Option State). after (comes_of all rs) m ++ later) (sym e) (sym leads)

    next-whole : (m : Option State) → made ≡ m → (x.labels ++ after from_here m) ++ later ≡ goal
    next-whole m e =
        append_assoc x.labels (after from_here m) later
        ∙ ap (λ (l : List ℕ). x.labels ++ l) (ap (λ (m : Option State). after from_here m ++ later) (sym e) ∙ sym next-to-come) ∙ x.whole

    pub following-nothing : made ≡ None → Following len rest sum all ls before place states now count (i - 2)
    following-nothing e = record {
      labels = x.labels;
      whole = ap (λ (l : List ℕ). l ++ later) (sym (append-nil x.labels)) ∙ next-whole None e;
      walked = x.walked;
      walking = x.walking;
    }

    module _ {s : State} (e : made ≡ Some s) {last kept : List ℕ} {r : Result ℕ TooLarge}
        (f : Walked (from_here (code s.rest) (code s.sum)) count all ls now last kept r) where
      pub following-next : {n : ℕ} → r ≡ Ok n → length kept ≡ length states
          → Following len rest sum all ls before place kept last n (i - 2)
      following-next {n} d long =
          let g = subst (λ (b : Result ℕ TooLarge). Walked (from_here (code s.rest) (code s.sum)) count all ls now last kept b) d f in
          record {
            labels = x.labels ++ from_here (code s.rest) (code s.sum);
            whole = next-whole (Some s) e;
            walked = walked_then x.walked g;
            walking = walked_on g x.walking long;
          }

      pub following-large : {more : List ℕ} → r ≡ Err (record {}) → Walked goal len all ls before last more (Err (record {}))
      following-large d =
          let g = subst (λ (b : Result ℕ TooLarge). Walked (from_here (code s.rest) (code s.sum)) count all ls now last kept b) d f in
          walked_as (next-whole (Some s) e) (walked-stops later (walked_then x.walked g))

    -- what a rule leads to has less left
    pub leads-less : {s : State} → made ≡ Some s → code s.rest < rest
    leads-less {s} e = step_less all (exchange_at ls (i - 2)) rest sum (sym e ∙ leads)
