-- `lists::read_whole` meets its contract: `none`, or the entries, where there are not too many names.
-- Assumes nothing.
use mathlib.Core.Path.{sym, ◌∙◌}
use native.Mathlib.Omega.{arith}
use lib.ListN.{length}
use borrow.Author.Tests.{le-leb, lt-leb}
use Rattle.lists.proofs.Listed.{none_read, many_read}
use Rattle.lists.proofs.read_whole.Goals as goal

pub returns-then-names-gt-NAMES : goal.returns-then-names-gt-NAMES
returns-then-names-gt-NAMES c =
    let a = c.args in
    rw (lt-leb (length a.names.now) 24 c.if-names-gt-NAMES.true) (many_read a.kind a.rest.now a.store.now a.store.now)

pub returns-then-is_none : goal.returns-then-is_none
returns-then-is_none c =
    let a = c.args in
    let none = sym c.is_none.ensures ∙ c.if-is_none.true in
    rw (le-leb (length a.names.now) 24 c.if-names-gt-NAMES.false, none) (none_read a.kind a.rest.now a.store.now c.tau.ensures none)

pub read_list-requires : goal.read_list-requires
read_list-requires c = omega arith

pub returns : goal.returns
returns c =
    let a = c.args in
    rw (le-leb (length a.names.now) 24 c.if-names-gt-NAMES.false, sym c.is_none.ensures ∙ c.if-is_none.false) c.read_list.ensures
