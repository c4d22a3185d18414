-- Beside the demands (docs/EXACT.md): what is said of a call whose text is of the exact kinds. The theorems are in proofs/Exact.antt.
-- Assumes nothing.
use Rattle.std.specs.Prelude.{◌≡◌, ◌↔◌, List, map, ℕ}
use Rattle.meaning.specs.Labels.{Label, number}
use Rattle.meaning.specs.Sets.{◌∈◌, Rising}
use Rattle.meaning.specs.Descriptions.{Description, Order}
use Rattle.meaning.specs.Runs.{OnRun}
use Rattle.meaning.specs.Answers as A
use Rattle.meaning.specs.Answers.{Allows, listed}
use Rattle.grammar.specs.Printed.{answer_text}
use Rattle.grammar.specs.Areas.{with_start}
use Rattle.rimecutter.specs.Calls.{shown}
use Rattle.rimecutter.specs.Demands.{Made, verdict_given, Called}

-- What is listed are exactly the labels met on finite runs that the order allows.
abbrev pub Exactly : Description → Order → List Label → Type 0
Exactly d o labels = (a : Label) → (a ∈ labels) ↔ (OnRun d a × Allows o a)

pub record ExactListing (m : Made) (d : Description) (o : Order) : Type 0 where
  pub rounds : ℕ
  pub labels : List Label
  pub rising : Rising (map number labels)
  pub exactly : Exactly d o labels
  pub says : verdict_given m ≡ A.verdict (listed rounds labels)
  pub answers : m.answer' ≡ shown labels m.answer

-- The same over what a call for C prints.
pub record ExactPrint (c : Called) (d : Description) (o : Order) : Type 0 where
  pub rounds : ℕ
  pub labels : List Label
  pub rising : Rising (map number labels)
  pub exactly : Exactly d o labels
  pub shown : c.area' ≡ with_start (answer_text d.words rounds labels) c.area
