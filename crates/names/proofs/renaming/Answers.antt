use mathlib.Core.Path.{◌≡◌}
use Rattle.names.proofs.Lists.{directed-start, directed-step, directed-skip, directed-end}
use Rattle.names.proofs.renaming.Goals as goal

pub loop-pair-init : goal.loop-pair-init
loop-pair-init c =
    let pairs = c.args.pairs.now in
    let rest : c.into_iter-pair-iterator.result.iter.rest.now ≡ pairs = cc in
    rw rest (directed-start pairs)

pub loop-pair-preserved-then-left-lt-NAMES : goal.loop-pair-preserved-then-left-lt-NAMES
loop-pair-preserved-then-left-lt-NAMES c = directed-step c.in-Some.pair.now c.loop-pair.invariant c.in-Some.ensures.steps

pub loop-pair-preserved : goal.loop-pair-preserved
loop-pair-preserved c = directed-skip c.in-Some.pair.now c.loop-pair.invariant c.in-Some.ensures.steps c.if-left-lt-NAMES.false

pub returns : goal.returns
returns c = directed-end c.loop-pair.invariant c.in-None.ensures.steps.0
