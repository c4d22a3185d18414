-- `keyed::names::is_free` meets its contract: none of the names, and none of the three words.
-- Assumes nothing.
use mathlib.Core.Path.{ap, ◌∙◌}
use mathlib.Core.List.{map}
use native.Mathlib.Omega.{arith}
use lib.Dec.{leb}
use lib.ListN.{length-map}
use Rattle.table.specs.Decoded.{name_of}
use Rattle.keyed.proofs.Freedom.{is_free-held, is_free-new}
use Rattle.keyed.proofs.names.is_free.Goals as goal

pub returns-then-find_name-names : goal.returns-then-find_name-names
returns-then-find_name-names c =
    let a = c.args in
    is_free-held (map (name_of 8) a.names.now) (name_of 8 a.w)
    (omega (arith, c.find_name.ensures, c.if-find_name-names.true, length-map a.names.now (name_of 8)))

pub returns : goal.returns
unfolding name_of
returns c =
    let a = c.args in
    ap (leb 3) c.find_name-2.ensures
    ∙ is_free-new (map (name_of 8) a.names.now) (name_of 8 a.w)
    (omega (arith, c.find_name.ensures, c.if-find_name-names.false, length-map a.names.now (name_of 8)))
