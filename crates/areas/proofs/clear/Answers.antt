-- `areas::clear` meets its contract. Assumes nothing.
use mathlib.Core.Path.{◌≡◌, sym, ap, ◌∙◌}
use mathlib.Core.List.{List, ◌++◌}
use Prim.Native.Nat.{ℕ, min}
use native.Mathlib.Omega.{arith}
use lib.ListN.{length, take, drop, replicate}
use lib.Seq.{length-take-le}
use Rattle.areas.proofs.Zeroes.{zeroed-reached}
use Rattle.areas.proofs.clear.Goals as goal

pub returns : goal.returns
returns c =
    let area = c.args.area.now in
    let end = c.min-end.result in
    let long : length (take end area) ≡ end = length-take-le end area (omega arith) in
    let zeros : c.fill.new.self ≡ replicate end 0 = c.fill.ensures.after (λ y e. e) ∙ ap (λ (n : ℕ). replicate n 0) long in
    let reached : end ≡ min c.args.count (length area) = c.min-end.ensures in
    ap (λ (l : List ℕ). l ++ drop end area) zeros ∙ ap (λ (n : ℕ). replicate n 0 ++ drop n area) reached
    ∙ sym (zeroed-reached c.args.count area)
