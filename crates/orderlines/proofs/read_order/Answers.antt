-- `orderlines::read_order` meets its contract: the key, then `all` or labels.
-- Assumes nothing.
use mathlib.Core.Path.{◌≡◌, sym, ◌∙◌}
use mathlib.Core.List.{map}
use mathlib.Core.Bool.{true, false}
use Prim.Native.Nat.{◌+◌}
use native.Mathlib.Omega.{arith}
use lib.ListN.{drop}
use Rattle.std.proofs.lemmas.Result.{err_from_is_err_and}
use Rattle.std.specs.Prelude.{Ok, None}
use Rattle.meaning.specs.Bytes.{ascii}
use Rattle.table.specs.declared.Order.TheVariants.{All}
use Rattle.table.specs.Decoded.{name_of}
use Rattle.grammar.specs.Text.{is_rest}
use Rattle.words.proofs.Steps.{rest-drop}
use Rattle.orderlines.proofs.OrderForms.{all-within, all-taken, order-stuck, order-passed, order-become}
use Rattle.orderlines.proofs.read_order.Goals as goal
use Rattle.orderlines.proofs.read_order.Goals.{After-is_rest}

pub returns-in_err-key : goal.returns-in_err-key
returns-in_err-key c =
    let p = err_from_is_err_and c.from_residual.result c.from_residual.ensures.1 in
    rw (p.1, p.2) (order-stuck c.args.text.now c.in_err-key.ensures.stands)

pub slice_bounds-is_rest-start : goal.slice_bounds-is_rest-start
slice_bounds-is_rest-start c = c.in_ok-key.ensures.stands.within

pub slice_bounds-is_rest-count : goal.slice_bounds-is_rest-count
slice_bounds-is_rest-count c = let w = c.in_ok-key.ensures.stands.within in omega arith

-- whether the order is `all`, at its place of the text
tested : (c : After-is_rest)
    → let text = c.args.text.now in
    c.is_rest.result ≡ is_rest (ascii "all") (drop c.in_ok-key.key.bytes text)
tested c =
    let text = c.args.text.now in
    let e = c.is_rest.ensures in
    rw (rest-drop text c.in_ok-key.key.bytes c.in_ok-key.ensures.stands.within) at e

pub overflow_add-result : goal.overflow_add-result
overflow_add-result c =
    let text = c.args.text.now in
    let w = all-within text c.in_ok-key.key.bytes (sym (tested (goal.at.overflow_add-result c).After-is_rest) ∙ c.if-is_rest.true) in
    omega arith

pub returns-then-is_rest : goal.returns-then-is_rest
returns-then-is_rest c =
    let a = c.args in
    let at = c.in_ok-key.key.bytes in
    order-become (map (name_of 8) a.names.now) a.text.now _ a.listed.now a.listed.now
    (Ok (record { value = record { order = All; fault = None }; bytes = at + 4 }))
    (order-passed a.text.now true c.in_ok-key.ensures.stands.says
    (sym c.if-is_rest.true ∙ tested (goal.at.returns-then-is_rest c).After-is_rest))
    (all-taken a.text.now at (sym (tested (goal.at.returns-then-is_rest c).After-is_rest) ∙ c.if-is_rest.true) (map (name_of 8) a.names.now) a.listed.now)

pub read_labels-requires : goal.read_labels-requires
read_labels-requires c =
    (c.in_ok-key.ensures.stands.within, c.requires)

pub returns : goal.returns
returns c =
    let a = c.args in
    order-become (map (name_of 8) a.names.now) a.text.now _ a.listed.now c.read_labels.new.listed c.read_labels.result
    (order-passed a.text.now false c.in_ok-key.ensures.stands.says
    (sym c.if-is_rest.false ∙ tested (goal.at.returns c).After-is_rest))
    c.read_labels.ensures
