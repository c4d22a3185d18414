-- The loop over the terms of a round: so many of them are done.
-- Assumes nothing.
use Rattle.std.specs.Prelude.{Result, Ok, Err}
use mathlib.Core.Path.{◌≡◌, sym, ap, subst, ◌∙◌}
use mathlib.Core.List.{List, map}
use Prim.Native.Nat.{ℕ, suc, ◌+◌, ◌≤◌, ◌<◌}
use native.Mathlib.Numerals.{add-one}
use native.Mathlib.Omega.{arith}
use lib.ListN.{length, get_or, length-map}
use Rattle.meaning.specs.Descriptions as D
use Rattle.slots.specs.Packing.{word_term}
use Rattle.table.specs.Encoded.{slot_of}
use Rattle.table.specs.Holding.{HoldsLists}
use Rattle.table.proofs.Holdings.{term_of_lem}
use Rattle.sets.specs.declared.TooLarge.{TooLarge}
use Rattle.advances.specs.Advances.{Midway, Kept, Onward, Advanced}
use Rattle.advances.proofs.Keepings.{kept_self, kept_trans}
use Rattle.courses.specs.Courses.{Coursed}

module _ (slots lists : List ℕ) (end : ℕ) (sets₀ news₀ work₀ log₀ out₀ : List ℕ) where
  -- what is so from the start on gives what is so when n terms are done
  pub record Coursing (sets news work log out : List ℕ) (to n : ℕ) : Type 0 where
    pub within : n ≤ length slots
    pub kept : Kept sets₀ news₀ work₀ log₀ out₀ sets news work log out
    pub right : (d : D.Description) (k : ℕ) → slots ≡ map slot_of d.terms → HoldsLists d lists
        → Midway d k 0 sets₀ news₀ work₀ log₀ out₀ end → Midway d k n sets news work log out to

  pub coursing-start : Coursing sets₀ news₀ work₀ log₀ out₀ end 0
  coursing-start = record { within = omega arith; kept = kept_self sets₀ news₀ work₀ log₀ out₀; right = λ d k e f x. x }

-- as many terms as there are slots
counted : {slots : List ℕ} (d : D.Description) → slots ≡ map slot_of d.terms → length slots ≡ D.term_count d
counted d e = ap length e ∙ length-map d.terms slot_of

module _ {slots lists : List ℕ} {end : ℕ} {sets₀ news₀ work₀ log₀ out₀ sets news work log out : List ℕ} {to n : ℕ}
    (x : Coursing slots lists end sets₀ news₀ work₀ log₀ out₀ sets news work log out to n) where
  pub coursing-end : length slots ≤ n → Coursed slots lists end sets₀ news₀ work₀ log₀ out₀ sets news work log out (Ok to)
  coursing-end h = record {
    kept = x.kept;
    right = λ d k e f m.
        let w = x.within in
        let all : n ≡ D.term_count d = omega (arith, counted d e) in
        subst (λ (j : ℕ). Midway d k j sets news work log out to) all (x.right d k e f m);
  }

  module _ (h : n < length slots) {sets' news' work' log' out' : List ℕ} where
    -- the term that the table has there
    onward : {r : Result ℕ TooLarge} → Advanced (word_term n (get_or slots n 0)) lists (length slots) n to sets news work log out sets' news' work' log' out' r
        → (d : D.Description) (k : ℕ) → slots ≡ map slot_of d.terms → HoldsLists d lists
        → Midway d k 0 sets₀ news₀ work₀ log₀ out₀ end → Onward d k (suc n) sets' news' work' log' out' r
    onward a d k e f m =
        let l : n < D.term_count d = omega (arith, counted d e) in
        let term = ap (λ (ws : List ℕ). word_term n (get_or ws n 0)) e ∙ term_of_lem d D.all n m.legal l in
        a.right d k term f (counted d e) l (x.right d k e f m)

    pub coursing-large :
        Advanced (word_term n (get_or slots n 0)) lists (length slots) n to sets news work log out sets' news' work' log' out' (Err (record {}))
        → Coursed slots lists end sets₀ news₀ work₀ log₀ out₀ sets' news' work' log' out' (Err (record {}))
    coursing-large a = record { kept = kept_trans x.kept a.kept; right = onward a }

    pub coursing-step : {next : ℕ}
        → Advanced (word_term n (get_or slots n 0)) lists (length slots) n to sets news work log out sets' news' work' log' out' (Ok next)
        → Coursing slots lists end sets₀ news₀ work₀ log₀ out₀ sets' news' work' log' out' next (n + 1)
    coursing-step {next} a = record {
      within = omega arith;
      kept = kept_trans x.kept a.kept;
      right = λ d k e f m. subst (λ (j : ℕ). Midway d k j sets' news' work' log' out' next) (sym (add-one n)) (onward a d k e f m);
    }
