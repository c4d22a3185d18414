-- `forms::terms::read_term` meets its contract: a line that is read, where there is room.
-- Assumes nothing.
use borrow.Author.Rules.{rules}
use mathlib.Core.Path.{◌≡◌, refl}
use mathlib.Core.List.{map}
use lib.ListN.{length}
use borrow.Author.Tests.{le-leb, lt-leb}
use Rattle.table.specs.Decoded.{name_of}
use Rattle.grammar.specs.Forms.{term_line}
use Rattle.forms.proofs.Taken.{line_taken}
use Rattle.forms.proofs.terms.read_term.Goals as goal

pub returns-then-names-gt-NAMES : goal.returns-then-names-gt-NAMES
returns-then-names-gt-NAMES c = rw (lt-leb (length c.args.names.now) 24 c.if-names-gt-NAMES.true) (refl, refl)

pub returns : goal.returns
returns c =
    let a = c.args in
    let after = c.read_line.new.list in
    let l : length after ≡ length a.list.now = search rules in
    rw (le-leb (length a.names.now) 24 c.if-names-gt-NAMES.false)
    (line_taken (map (name_of 8) a.names.now) _ a.text.now (term_line a.text.now) a.list.now after c.read_line.result l
    c.read_line.ensures)
