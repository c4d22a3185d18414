-- `labels::packing::residue` meets its contract: what is left out of each word is a multiple of the prime. Assumes nothing.
use Rattle.std.proofs.Common.{◌≡◌, ℕ, ◌+◌, ◌*◌, ◌/◌, ◌%◌, ◌^◌, ap, arith}
use Rattle.labels.specs.Packing.{code}
use Rattle.labels.proofs.packing.residue.Goals as goal

pub returns-then-a-eq0 : goal.returns-then-a-eq0
unfolding code
returns-then-a-eq0 c =
    let a = c.args.a in
    let whole : a.lower % 2 ^ 60 ≡ a.lower % 2 ^ 60 + 2 ^ 60 * a.upper = omega (arith, c.if-a-eq0.true) in
    ap (λ (n : ℕ). n % 1000003) whole

rest_more : (w rest more : ℕ) → w ≡ rest + 1000003 * more → rest % 1000003 ≡ w % 1000003
rest_more w rest more e = omega arith

left_out : (lower upper : ℕ) → lower + 2 ^ 60 * upper
    ≡ lower % 1000003 + 709420 * (upper % 1000003) + 1000003 * (lower / 1000003 + 709420 * (upper / 1000003) + 2 ^ 60 / 1000003 * upper)
left_out lower upper = omega arith

pub returns : goal.returns
unfolding code
returns c = let a = c.args.a in rest_more _ _ _ (left_out (a.lower % 2 ^ 60) a.upper)
