-- `keyed::names::take_name` meets its contract: the line, its name, and whether it is free.
-- Assumes nothing.
use mathlib.Core.Path.{sym, ap, ◌∙◌}
use mathlib.Core.List.{map}
use native.Mathlib.Omega.{arith}
use Rattle.table.specs.Decoded.{name_of}
use Rattle.grammar.specs.Reading.{after_line}
use Rattle.keyed.proofs.Walks.{line-bad}
use Rattle.keyed.proofs.NameLines.{name-stuck, name-held, name_free}
use Rattle.keyed.proofs.names.take_name.Goals as goal

pub returns-in-Err : goal.returns-in-Err
returns-in-Err c =
    let a = c.args in
    record {
      says = line-bad a.line a.text.now c.flaw_after-flaw.ensures (name-stuck (map (name_of 8) a.names.now) a.text.now c.in-Err.ensures.stands);
      within = omega arith;
    }

pub returns-then-not-is_free : goal.returns-then-not-is_free
returns-then-not-is_free c =
    let a = c.args in
    let s = c.in-Ok.ensures.stands in
    record {
      says =
          line-bad a.line a.text.now c.flaw_after-flaw-then-not-is_free.ensures
          (name-held (map (name_of 8) a.names.now) _ s.says (sym c.is_free.ensures ∙ c.if-not-is_free.true));
      within = omega arith;
    }

pub returns : goal.returns
returns c =
    let a = c.args in
    let s = c.in-Ok.ensures.stands in
    record {
      says =
          ap (after_line a.line a.text.now)
          (name_free (map (name_of 8) a.names.now) _ s.says (sym c.is_free.ensures ∙ c.if-not-is_free.false));
      within = s.within;
    }
