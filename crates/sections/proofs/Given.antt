-- What is promised for areas of any lengths, by whether there is room.
-- Assumes nothing.
use mathlib.Core.Path.{◌≡◌, ap}
use mathlib.Core.Bool.{Bool, true, false, not}
use Prim.Native.Nat.{ℕ}
use native.Mathlib.Omega.{arith}
use Rattle.std.specs.Prelude.{Result}
use Rattle.grammar.specs.Reading.{at_first}
use Rattle.faults.specs.CodedFaults.{flaw_of, flaw_for}
use Rattle.faults.specs.declared.Flaw.{Flaw}
use Rattle.faults.proofs.Uniqueness.{flaw-is}
use Rattle.keyed.specs.declared.BadLine.{BadLine}
use Rattle.keyed.specs.Walks.{refusal}
use Rattle.sections.specs.Sections.{Whether, Roomed}

module _ {Room Read Else : Type 0} where
  pub given-roomy : Room → Read → Roomed Room Read Else
  given-roomy h k = record { roomy = λ room. k; narrow = λ none. absurd (none h) }

  pub given-narrow : (Room → ⊥) → Else → Roomed Room Read Else
  given-narrow h k = record { roomy = λ room. absurd (h room); narrow = λ none. k }

-- What is returned where there is none.
pub bad-first : {T : Type 0} {f : Flaw} {line : ℕ} → flaw_of f ≡ at_first → ◌≡◌ {A = Result T BadLine} (refusal f line) (refusal (flaw_for at_first) line)
bad-first {line = line} e = ap (λ g. refusal g line) (flaw-is _ at_first e)

-- What a test of the room told.
pub room-told : {Room : Type 0} (b : Bool) → not b ≡ false → Whether b Room → Room
room-told true e w = w
room-told false e w = let z : ◌≡◌ {A = ℕ} 0 1 = cc in absurd (omega arith)

pub no-room-told : {Room : Type 0} (b : Bool) → not b ≡ true → Whether b Room → Room → ⊥
no-room-told true e w = let z : ◌≡◌ {A = ℕ} 0 1 = cc in absurd (omega arith)
no-room-told false e w = w
