-- Answers and refusals (docs/FORMAT.md, "What is printed").
-- Assumes nothing.
use Rattle.std.specs.Prelude.{◌≡◌, ◌↔◌, ◌⊎◌, Bool, true, false, ◌&&◌, List, [], ◌∷◌, map, ℕ, zero, suc, length}
use Rattle.std.proofs.Math.Dec.{compare_is_eq}
use Rattle.meaning.specs.Labels.{Label, size, number, order}
use Rattle.meaning.specs.Sets.{◌∈◌, at, Rising, spread, keep}
use Rattle.meaning.specs.Descriptions.{Order, all, only, Description}
use Rattle.meaning.specs.Rounds.{allowed, body_sets, next, round_sets, InSet, Rounds}
use Rattle.meaning.specs.Limits.{over, PassesLimit}

-- The labels of an order; tau is never cut.
abbrev pub Allows : Order → Label → Type 0
Allows all a = Unit {0}
Allows (only ls) a = (a ∈ ls) ⊎ (size a ≡ 0)

-- The answer to a well-formed description.
pub data Outcome : Type 0 where
  too_large : Outcome
  listed : (rounds : ℕ) (labels : List Label) → Outcome

-- What makes an answer right: too large exactly when the least sets pass a limit; otherwise the round count, and ascending,
-- once each, exactly those labels of the root's set that the order allows.
pub record Lists (d : Description) (o : Order) (rounds : ℕ) (labels : List Label) : Type 0 where
  pub within : PassesLimit d → ⊥
  pub counted : Rounds d rounds
  pub rising : Rising (map number labels)
  pub exactly : (a : Label) → (a ∈ labels) ↔ (InSet d d.root a × Allows o a)

abbrev pub Answers : Description → Order → Outcome → Type 0
Answers d o too_large = PassesLimit d
Answers d o (listed rounds labels) = Lists d o rounds labels

-- The same, executable: round after round until a limit is passed or the equation sets stay. 2,049 rounds are enough.
abbrev pub admits : Order → Label → Bool
admits all a = true
admits (only ls) a = allowed ls a

unfoldable pub cut : Order → List Label → List Label
cut o s = spread (keep (admits o)) s

unfoldable pub same_labels : List Label → List Label → Bool
same_labels [] [] = true
same_labels [] (b ∷ t) = false
same_labels (a ∷ s) [] = false
same_labels (a ∷ s) (b ∷ t) = compare_is_eq (order a b) && same_labels s t

unfoldable pub same_sets : List (List Label) → List (List Label) → Bool
same_sets [] [] = true
same_sets [] (t ∷ more) = false
same_sets (s ∷ sets) [] = false
same_sets (s ∷ sets) (t ∷ more) = same_labels s t && same_sets sets more

unfoldable pub answer_from : ℕ → Description → Order → ℕ → List (List Label) → Outcome
answer_from zero d o k before = too_large
answer_from (suc more) d o k before =
    let sets = next d before in
    elim (over sets) [
      | true ↦ too_large
      | false ↦ elim (same_sets (body_sets d sets) (body_sets d before)) [
        | true ↦ listed (suc k) (cut o (at sets d.root))
        | false ↦ answer_from more d o (suc k) sets
      ]
    ]

unfoldable pub answer : Description → Order → Outcome
answer d o = answer_from 2049 d o 0 (round_sets d 0)

-- Refusals. 2 to 5 are faults of a line; 1 and 7 come with line 0 and column 0, and the number 6 is given no more. (8 is the C call's alone, and
-- is said where that call is.)
pub data Fault : Type 0 where
  form name range amount : Fault

abbrev pub fault_number : Fault → ℕ
fault_number form = 2
fault_number name = 3
fault_number range = 4
fault_number amount = 5

pub data Refusal : Type 0 where
  too_long : Refusal
  in_line : Fault → (line column : ℕ) → Refusal
  large : Refusal

abbrev pub reason_of : Refusal → ℕ
reason_of too_long = 1
reason_of (in_line fault line column) = fault_number fault
reason_of large = 7

abbrev pub line_of : Refusal → ℕ
line_of too_long = 0
line_of (in_line fault line column) = line
line_of large = 0

-- the byte where the fault begins, counted from 1 in the line
abbrev pub column_of : Refusal → ℕ
column_of too_long = 0
column_of (in_line fault line column) = column
column_of large = 0

-- What a call says: number 0 for an answer, with its rounds and number of labels; both 0 on a refusal.
pub record Verdict : Type 0 where
  pub reason : ℕ
  pub line : ℕ
  pub column : ℕ
  pub rounds : ℕ
  pub labels : ℕ

abbrev pub refused : Refusal → Verdict
refused r = record { reason = reason_of r; line = line_of r; column = column_of r; rounds = 0; labels = 0 }

abbrev pub verdict : Outcome → Verdict
verdict too_large = refused large
verdict (listed rounds labels) = record { reason = 0; line = 0; column = 0; rounds = rounds; labels = length labels }
