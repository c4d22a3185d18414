-- What a line gives that has no form, one that has a fault, and one that has none, by what the code found.
-- Assumes nothing.
use mathlib.Core.Path.{◌≡◌, sym, ap, ◌∙◌}
use Prim.Native.Nat.{ℕ, ◌-◌}
use lib.ListN.{length, drop, length-drop}
use Rattle.std.specs.Prelude.{Option, Some, None}
use Rattle.meaning.specs.Bytes.{Text}
use Rattle.meaning.specs.Answers.{form}
use Rattle.grammar.specs.Text.{Past, stuck}
use Rattle.grammar.specs.Faults.{Found, fine, fault}
use Rattle.grammar.specs.Reading.{Taken, taken, faulty, taken_unless, formed}
use Rattle.faults.specs.CodedFaults.{fault_of, found_of}
use Rattle.faults.specs.declared.FaultAt.{FaultAt}

-- a line that is stuck after so many bytes
pub formed-stuck : {A B : Type 0} {d : Past A} (k : A → Text → Taken B) (text : Text) (p : ℕ) → stuck (drop p text) ≡ d
    → faulty form (length text - p) ≡ formed d k
formed-stuck k text p e = ap (faulty form) (sym (length-drop p text)) ∙ ap (λ d. formed d k) e

module _ {f : Option FaultAt} {x : Found} (q : found_of f ≡ x) where
  pub found-fine : f ≡ None → fine ≡ x
  found-fine e = rw e at q

  pub found-faulty : {g : FaultAt} → f ≡ Some g → fault (fault_of g.fault) g.from ≡ x
  found-faulty e = rw e at q

  module _ {A : Type 0} (a : A) (rest : Text) {t : Taken A} (gives : taken_unless x a rest ≡ t) where
    pub taken_fine : f ≡ None → taken a rest ≡ t
    taken_fine e = rw (← gives, ← found-fine e)

    pub taken-faulty : {g : FaultAt} → f ≡ Some g → faulty (fault_of g.fault) g.from ≡ t
    taken-faulty e = rw (← gives, ← found-faulty e)
