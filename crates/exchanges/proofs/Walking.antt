-- Labels put into a set at the start of words of its own, beside a memory of states: what is kept stays true of the set.
-- Assumes nothing.
use Rattle.std.specs.Prelude.{Result, Ok, Err}
use mathlib.Core.Path.{◌≡◌, refl, sym, ap, ap₂, subst, ◌∙◌}
use mathlib.Core.Bool.{Bool, true, false}
use mathlib.Core.List.{List, [], ◌∷◌, ◌++◌}
use Prim.Native.Nat.{ℕ, ◌-◌, ◌≤◌, ◌<◌}
use native.Mathlib.Decide.{dec_lt}
use native.Mathlib.Omega.{arith}
use lib.ListN.{length, replicate}
use Rattle.meaning.specs.Sets.{Rising}
use Rattle.parts.specs.Parts.{set_at, room_at, most_labels}
use Rattle.parts.proofs.LaidSets.{length-laid, set_at-laid}
use Rattle.sets.specs.declared.TooLarge.{TooLarge}
use Rattle.sets.specs.Building.{Building, goes_on, each, done, enter, Grown}
use Rattle.sets.proofs.Steps.{Steady, steady-each, steady-enter, steady-fits, each_append, going_start, going_end}
use Rattle.sets.proofs.Steps.{first-large, first_holds, going-last, grown-as, built-holds}
use Rattle.sets.proofs.Presence.{entered-rising, entered-keeps}
use Rattle.rules.specs.Rules.{Exchange}
use Rattle.choices.specs.Following.{comes_of, entered, closed}
use Rattle.memory.specs.Memory.{Recalls}
use Rattle.memory.proofs.Recalling.{recalls-more, recalls-none}
use Rattle.exchanges.specs.Following.{Walking, Walked}

-- Labels put in one after the other never shorten a set and never take it past the room.
pub steady-entered : (room : ℕ) (ws : List ℕ) → Steady room (entered room ws)
steady-entered room ws = steady-each room (enter room) ws (steady-enter room)

pub steady-closed : (room : ℕ) (all : List ℕ) (rs : List Exchange) (w : ℕ) → Steady room (closed room all rs w)
steady-closed room all rs w = steady-entered room (comes_of all rs w w)

-- the room of a set at the start of words
abbrev pub room_in : List ℕ → ℕ
room_in words = room_at 0 most_labels (length words)

pub same_count : {m n : ℕ} → ◌≡◌ {A = Result ℕ TooLarge} (Ok m) (Ok n) → m ≡ n
same_count e = cc

not-held : {n : ℕ} → ◌≡◌ {A = Result ℕ TooLarge} (Err (record {})) (Ok n) → ⊥
not-held e = let z : ◌≡◌ {A = ℕ} 0 1 = cc in omega arith

-- a memory without room for a state keeps none
pub recalls-small : (all ls states s : List ℕ) → length states ≤ 2 → Recalls all ls states s
recalls-small all ls states s h entry k = absurd (omega arith)

-- The start: with no room for a state, and with a memory in which none is kept yet.
pub alone-walking : (len : ℕ) (all ls words states : List ℕ) → len ≤ length words → length states ≤ 2 → Walking len all ls words states
alone-walking len all ls words states h k =
    record { within = h; rising = λ l. absurd (omega arith); recalls = recalls-small all ls states (set_at 0 len words) k }

pub fresh-walking : (len : ℕ) (all ls words : List ℕ) (n : ℕ) → len ≤ length words → Rising (set_at 0 len words)
    → Walking len all ls words (replicate n 0)
fresh-walking len all ls words n h r =
    record { within = h; rising = λ l. r; recalls = recalls-none all ls (set_at 0 len words) n }

-- What is kept stays true of a set that grows, and the set ascends as it did.
module _ (room : ℕ) (ws : List ℕ) {len : ℕ} {all ls words states : List ℕ} (x : Walking len all ls words states) where
  abbrev grown : List ℕ
  grown = (entered room ws (set_at 0 len words)).set

  rising-more : 2 < length states → Rising grown
  rising-more h = entered-rising room ws (set_at 0 len words) (x.rising h)

  recalled-more : Recalls all ls states grown
  recalled-more = pick (dec_lt 2 (length states))
    where
      pick : Dec (2 < length states) → Recalls all ls states grown
      pick (yes h) = recalls-more all ls states (set_at 0 len words) grown x.recalls (entered-keeps room ws (set_at 0 len words) (x.rising h))
      pick (no h) = recalls-small all ls states grown (omega arith)

-- no label
pub walked_none : {len : ℕ} {all ls words states : List ℕ} → Walking len all ls words states → Walked [] len all ls words words states (Ok len)
unfolding each
walked_none {len} {all} {ls} {words} {states} x =
    let p = going_end (going_start 0 words len done (omega (arith, x.within))) (λ s. refl) in
    record {
      grown = record { answer = p.0; words = p.1 };
      recalls = λ n e. subst (λ (m : ℕ). Recalls all ls states (set_at 0 m words)) (same_count e) x.recalls;
    }

-- What labels make of the set that stands there.
abbrev pub set_with : List ℕ → ℕ → List ℕ → Building
set_with labels len before = entered (room_in before) labels (set_at 0 len before)

fits : (labels : List ℕ) (len : ℕ) (before : List ℕ) → length (set_with labels len before).set ≤ length before - 0
fits labels len before = steady-fits 0 len most_labels (entered (room_in before) labels) before (steady-entered (room_in before) labels)

module _ (labels : List ℕ) {len n : ℕ} {before after : List ℕ} (g : Grown (entered (room_in before) labels) 0 len before after (Ok n)) where
  all_held : ((set_with labels len before).whole ≡ true) × (n ≡ length (set_with labels len before).set)
  all_held = built-holds (set_with labels len before).whole (length (set_with labels len before).set) n g.answer

  grown-set : set_at 0 n after ≡ (set_with labels len before).set
  grown-set =
      ap₂ (λ (m : ℕ) (l : List ℕ). set_at 0 m l) all_held.1 g.words
      ∙ set_at-laid 0 (set_with labels len before).set before (fits labels len before)

-- the same labels, said otherwise
pub walked_as : {labels others : List ℕ} {len : ℕ} {all ls before after kept : List ℕ} {r : Result ℕ TooLarge} → labels ≡ others
    → Walked labels len all ls before after kept r → Walked others len all ls before after kept r
walked_as {len = len} {all} {ls} {before} {after} {kept} {r} e f = subst (λ (l : List ℕ). Walked l len all ls before after kept r) e f

-- One label.
one-entered : (room w : ℕ) (s : List ℕ) → enter room w s ≡ entered room (w ∷ []) s
unfolding each
one-entered room w s = go (enter room w s).whole refl
  where
    go : (t : Bool) → (enter room w s).whole ≡ t → enter room w s ≡ goes_on t (enter room w s) (each (enter room) [])
    go true e = ap (λ (t : Bool). record { set = (enter room w s).set; whole = t }) e
    go false e = refl

pub walked_one : {len : ℕ} {all ls before after states : List ℕ} (w : ℕ) {r : Result ℕ TooLarge} → Walking len all ls before states
    → Grown (enter (room_in before) w) 0 len before after r → Walked (w ∷ []) len all ls before after states r
walked_one {len} {all} {ls} {before} {after} {states} w x g =
    let more = grown-as (one-entered (room_in before) w) g in
    record {
      grown = more;
      recalls = λ n e. subst (Recalls all ls states)
          (sym (grown-set (w ∷ []) (subst (Grown (entered (room_in before) (w ∷ [])) 0 len before after) e more)))
          (recalled-more (room_in before) (w ∷ []) x);
    }

-- Labels that were put in: the length of the words; then what goes on, or does not.
module _ {labels : List ℕ} {len : ℕ} {all ls before after kept : List ℕ} where
  pub walked-length : {r : Result ℕ TooLarge} → Walked labels len all ls before after kept r → length after ≡ length before
  walked-length f = ap length f.grown.words ∙ length-laid 0 (set_with labels len before).set before (fits labels len before)

  module _ {n : ℕ} (f : Walked labels len all ls before after kept (Ok n)) where
    pub walked_whole : (set_with labels len before).whole ≡ true
    walked_whole = (all_held labels f.grown).0

    pub walked-set : set_at 0 n after ≡ (set_with labels len before).set
    walked-set = grown-set labels f.grown

    -- the set and the memory are again as they are asked to be
    pub walked_on : {states : List ℕ} → Walking len all ls before states → length kept ≡ length states → Walking n all ls after kept
    walked_on x long = record {
      within = let a = walked-length f in let b = (all_held labels f.grown).1 in omega (arith, fits labels len before);
      rising = λ l. subst Rising (sym walked-set) (rising-more (room_in before) labels x (omega arith));
      recalls = f.recalls n refl;
    }

    -- more labels are put in
    pub walked_then : {more last later : List ℕ} {r : Result ℕ TooLarge} → Walked more n all ls after last later r
        → Walked (labels ++ more) len all ls before last later r
    walked_then {more} g =
        let first = entered (room_in before) labels in
        let going = first_holds 0 len first (entered (room_in before) more) before after n (fits labels len before) f.grown in
        let p = going-last most_labels (λ room. entered room more) (λ room. steady-entered room more) going g.grown in
        record {
          grown = grown-as (λ s. sym (each_append (enter (room_in before)) labels more s)) (record { answer = p.0; words = p.1 });
          recalls = g.recalls;
        }

  -- one was too many, and so no more are put in
  pub walked-stops : (more : List ℕ) {later : List ℕ} → Walked labels len all ls before after kept (Err (record {}))
      → Walked (labels ++ more) len all ls before after later (Err (record {}))
  walked-stops more f = record {
    grown = grown-as (λ s. sym (each_append (enter (room_in before)) labels more s))
        (first-large 0 len (entered (room_in before) labels) (entered (room_in before) more) before after f.grown);
    recalls = λ n e. absurd (not-held e);
  }
