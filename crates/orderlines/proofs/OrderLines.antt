-- What the order's line gives, by its form and its fault.
-- Assumes nothing.
use mathlib.Core.Path.{◌≡◌, sym, ap}
use mathlib.Core.List.{List}
use Prim.Native.Nat.{ℕ, ◌-◌}
use lib.ListN.{length, drop}
use Rattle.std.specs.Prelude.{Option, Some, None}
use Rattle.meaning.specs.Bytes.{Text}
use Rattle.meaning.specs.Descriptions as D
use Rattle.meaning.specs.Answers.{form}
use Rattle.table.specs.declared.Order.{Order}
use Rattle.grammar.specs.Text.{stuck}
use Rattle.grammar.specs.Forms.{OrderLine, order_line}
use Rattle.grammar.specs.Faults.{order_said, order_fault}
use Rattle.grammar.specs.Reading.{Taken, taken, faulty, taken_unless, formed, take_order, after_line, one_line}
use Rattle.words.specs.Steps.{Stands}
use Rattle.faults.specs.CodedFaults.{fault_of}
use Rattle.faults.specs.declared.FaultAt.{FaultAt}
use Rattle.orderlines.specs.Orders.{OrderTaken, OrderTo}
use Rattle.keyed.proofs.LineFaults.{formed-stuck, found-fine, taken_fine, taken-faulty}

module _ (words : List Text) (text : Text) where
  abbrev then-order : OrderLine → Text → Taken D.Order
  then-order x = taken_unless (order_fault words x) (order_said words x)

  pub order-formless : {p : ℕ} → Stands text p (stuck (drop p text)) (order_line text) → faulty form (length text - p) ≡ take_order words text
  unfolding take_order
  order-formless {p} s = formed-stuck then-order text p s.says

  module _ {before after : List ℕ} {x : Order} {f : Option FaultAt} {took : ℕ} (k : OrderTaken words text (order_line text) before after x f took) where
    order-line : then-order k.line (drop took text) ≡ take_order words text
    unfolding take_order
    order-line = ap (λ d. formed d then-order) k.says

    order-fine : f ≡ None → taken (order_said words k.line) (drop took text) ≡ take_order words text
    order-fine e = taken_fine k.faults (order_said words k.line) (drop took text) order-line e

    pub order-faulty : {g : FaultAt} → f ≡ Some g → faulty (fault_of g.fault) g.from ≡ take_order words text
    order-faulty e = taken-faulty k.faults (order_said words k.line) (drop took text) order-line e

    pub order-came : (line : ℕ) → f ≡ None → OrderTo text line (one_line (take_order words) line text) before after x took
    order-came line e =
        record {
          order = order_said words k.line;
          says = ap (after_line line text) (order-fine e);
          within = k.within;
          kept = k.order;
          stored = k.stored (sym (found-fine k.faults e));
        }
