use mathlib.Core.Path.{◌≡◌, sym, ◌∙◌}
use Prim.Native.Nat.{◌%◌}
use native.Mathlib.Omega.{arith}
use borrow.Author.Tests.{eqb-true}
use Rattle.grammar.specs.Marks.{part_texts}
use Rattle.grammar.proofs.Underway.{underway-start}
use Rattle.labels.specs.declared.Label.{Label}
use Rattle.labels.specs.Packing.{code}
use Rattle.labels.proofs.Codes.{code_of}
use Rattle.label_texts.specs.Packed.{name_texts, counts_of}
use Rattle.label_texts.proofs.Parts.{parts-start, parts-room, parts_again, parts-early, parts-end}
use Rattle.label_texts.proofs.write_parts.Goals as goal

first-digit : (a : Label) → a.lower % 32 ≡ code a % 32
unfolding code
first-digit a = omega arith

pub loop-name-init : goal.loop-name-init
loop-name-init c = underway-start (parts-start (part_texts (name_texts c.args.names) (counts_of (code c.args.label)))) c.requires

pub returns-then-same : goal.returns-then-same
returns-then-same c =
    let l = c.loop-name in
    let none : code l.rest ≡ 0 = eqb-true _ _ (sym c.same.ensures ∙ c.if-same.true) ∙ code_of c.tau.ensures in
    parts-early c.args.names l.name-index (code l.rest) l.invariant none

pub write_next-at-requires : goal.write_next-at-requires
write_next-at-requires c =
    let l = c.loop-name in
    rw (first-digit l.rest) (parts-room c.args.names l.name-index (code l.rest) l.invariant (omega arith) (omega arith))

pub loop-name-preserved : goal.loop-name-preserved
loop-name-preserved c =
    let l = c.loop-name in
    rw (code_of c.behind-rest.ensures)
    (parts_again c.args.names l.name-index (code l.rest) l.invariant (omega arith) (omega arith) (rw (first-digit l.rest) at c.write_next-at.ensures))

pub returns : goal.returns
returns c = let l = c.loop-name in parts-end c.args.names l.name-index (code l.rest) l.invariant (omega arith)
