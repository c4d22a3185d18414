-- `lists::dotted::added` meets its contract: the number of some actions of a name is their count times 32 to the power of the name.
-- Assumes nothing.
use mathlib.Core.Path.{◌≡◌, refl, sym, ap, ap₂, ◌∙◌}
use mathlib.Core.Bool.{false, false≢true}
use Prim.Native.Nat.{ℕ, ◌+◌, ◌*◌, ◌%◌, ◌^◌}
use native.Mathlib.Omega.{arith}
use Rattle.std.specs.Prelude.{Option, Some, None}
use Rattle.std.specs.Option.{is_some}
use Rattle.faults.specs.declared.FaultAt.{FaultAt}
use Rattle.meaning.specs.Labels.{number, several}
use Rattle.labels.specs.Packing.{code, packed}
use Rattle.labels.proofs.Codes.{code_of}
use Rattle.labels.proofs.Words.{number-several}
use Rattle.lists.proofs.dotted.added.Goals as goal

not-some : (f : Option FaultAt) → is_some f ≡ false → f ≡ None
not-some None e = refl
not-some (Some f) e = absurd (false≢true (sym e))

pub returns : goal.returns
returns c =
    let a = c.args in
    let fine = not-some a.found (sym c.is_some.ensures ∙ c.if-is_some.false) in
    let r = rw fine at c.requires in
    let name : c.number_of.result ≡ code a.name = omega (arith, c.number_of.ensures) in
    let few : a.times % 32 ≡ a.times = omega arith in
    let part =
    code_of c.several.ensures ∙ ap₂ (λ (n t : ℕ). number (several 24 n t)) name few
    ∙ number-several 24 (code a.name) a.times r.0 in
    let sum : (code a.label + a.times * 32 ^ code a.name) % 2 ^ 124 ≡ code a.label + a.times * 32 ^ code a.name = omega arith in
    rw fine (c.joined.ensures ∙ ap (λ (n : ℕ). packed ((code a.label + n) % 2 ^ 124)) part ∙ ap packed sum)
