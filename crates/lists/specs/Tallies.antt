-- What the entries of a list or the parts of a label say, one by one and together.
-- Assumes nothing.
use Rattle.std.specs.Prelude.{List, map, ℕ}
use Rattle.grammar.specs.Faults.{Found, Item, items_fault}

-- An entry's fault, the number by which it is ordered, a second number, and the place where it begins.
pub record Said : Type 0 where
  pub found : Found
  pub first : ℕ
  pub second : ℕ
  pub from : ℕ

-- All faults of a list: those of its entries, their order, and a weight over the limit, these two at the place of an entry.
abbrev pub item_of : (weight place : Said → ℕ) → Said → Item
item_of weight place e = record { own = e.found; key = e.first; weight = weight e; from = place e }

unfoldable pub all_faults : (weight place : Said → ℕ) → ℕ → List Said → Found
all_faults weight place limit es = items_fault limit (map (item_of weight place) es)
