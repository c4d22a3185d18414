-- Rules of comm in a list of labels, and where one leads.
-- Assumes nothing.
use Rattle.std.specs.Prelude.{Bool, true, false, not, ◌&&◌, List, [], ◌∷◌, ℕ, zero, suc, ◌+◌, ◌-◌, ◌%◌, ◌^◌, ltb, eqb, length, get_or, Option, Some, None}
use Rattle.meaning.specs.Labels.{inside}
use Rattle.labels.specs.Packing.{packed}
use Rattle.labels.specs.Bags.{bag}
use Rattle.sets.specs.Inserting.{present}
use Rattle.rules.specs.declared.State.{State}

-- A rule of comm: two labels, its left side and that of the one action on its right.
pub record Exchange : Type 0 where
  pub left : ℕ
  pub right : ℕ

-- A list of labels holds rules in pairs: the rule whose left side stands at a place; the rules before a place, the last first; all.
abbrev pub exchange_at : List ℕ → ℕ → Exchange
exchange_at ls i = record { left = get_or ls i 0; right = get_or ls (i + 1) 0 }

unfoldable pub exchanges_before : List ℕ → ℕ → List Exchange
exchanges_before ls zero = []
exchanges_before ls (suc zero) = []
exchanges_before ls (suc (suc i)) = exchange_at ls i ∷ exchanges_before ls i

abbrev pub exchanges_in : List ℕ → List Exchange
exchanges_in ls = exchanges_before ls (length ls)

-- A label with the left side of a rule replaced by its right side.
abbrev pub replaced_by : Exchange → ℕ → ℕ
replaced_by r w = (w - r.left + r.right) % 2 ^ 124

-- Whether a rule can be applied to what is left of a label: it takes something, which two words hold, and that lies inside. So every
-- application leaves less.
abbrev pub applies : Exchange → ℕ → Bool
applies r rest = not (eqb r.left 0) && (ltb r.left (2 ^ 124) && inside (bag r.left) (bag rest))

-- Where a rule leads from a state: it must apply, and the label that is made must not be one of those that are followed by
-- themselves.
abbrev pub pick_step : (applies known : Bool) → State → Option State
pick_step true true s = None
pick_step true false s = Some s
pick_step false known s = None

abbrev pub step_of : List ℕ → Exchange → ℕ → ℕ → Option State
step_of all r rest sum =
    let made = replaced_by r sum in
    pick_step (applies r rest) (present all made) (record { rest = packed (rest - r.left); sum = packed made })
