-- Lines that are read alike, one after the other.
-- Assumes nothing.
use mathlib.Core.Path.{◌≡◌, ap, ◌∙◌}
use Prim.Native.Nat.{ℕ, suc, ◌+◌, ◌-◌, ◌≤◌, ◌<◌}
use native.Mathlib.Omega.{arith}
use lib.ListN.{length, drop, length-drop}
use lib.Seq.{drop-drop}
use Rattle.meaning.specs.Bytes.{Text}
use Rattle.words.proofs.Steps.{rest_at, rest-drop}
use Rattle.grammar.specs.Reading.{Taken, Flaw, Walk, reached, halted, walk, one_line, lines}

-- The lines that are left, after what was read before them, come to the goal; the first of all has the number `line`.
pub record Onto {A : Type 0} (do-take : A → Text → Taken A) (goal : Walk A) (text : Text) (line all i : ℕ) (a : A) (from : ℕ) : Type 0 where
  pub within : from ≤ length text
  pub upto : i ≤ all
  pub comes : lines do-take (all - i) a (line + i) (drop from text) ≡ goal

pub lines_start : {A : Type 0} (do-take : A → Text → Taken A) (text : Text) (line all : ℕ) (a : A)
    → Onto do-take (lines do-take all a line text) text line all 0 a 0
lines_start do-take text line all a =
    let e : all - 0 ≡ all = omega arith in
    let n : line + 0 ≡ line = omega arith in
    record { within = omega arith; upto = omega arith; comes = rw (e, n) }

module _ {A : Type 0} {do-take : A → Text → Taken A} {goal : Walk A} {text : Text} {line all i : ℕ} {a : A} {from : ℕ}
    (o : Onto do-take goal text line all i a from) where
  more : i < all → walk (one_line (do-take a) (line + i) (rest_at text from)) (lines do-take (all - (i + 1))) ≡ goal
  unfolding lines
  more h =
      let e : all - i ≡ suc (all - (i + 1)) = omega arith in
      rw (rest-drop text from o.within) (rw (e, lines) at o.comes)

  pub lines_step : {b : A} {took : ℕ} → i < all
      → reached b (suc (line + i)) (drop took (rest_at text from)) ≡ one_line (do-take a) (line + i) (rest_at text from)
      → took ≤ length (rest_at text from)
      → Onto do-take goal text line all (i + 1) b (from + took)
  lines_step {b} {took} h q w =
      let rest = rest-drop text from o.within in
      let s : suc (line + i) ≡ line + (i + 1) = omega arith in
      let d : drop took (rest_at text from) ≡ drop (from + took) text = rw rest (drop-drop took from text) in
      let k : lines do-take (all - (i + 1)) b (suc (line + i)) (drop took (rest_at text from)) ≡ goal =
      ap (λ w. walk w (lines do-take (all - (i + 1)))) q ∙ more h in
      record { within = omega (arith, o.within, w, ap length rest ∙ length-drop from text); upto = omega arith; comes = rw (s, d) at k }

  pub lines-halt : {f : Flaw} {l : ℕ} → i < all → halted f l ≡ one_line (do-take a) (line + i) (rest_at text from) → halted f l ≡ goal
  lines-halt h q = ap (λ w. walk w (lines do-take (all - (i + 1)))) q ∙ more h

  pub lines_end : all ≤ i → reached a (line + all) (drop from text) ≡ goal
  unfolding lines
  lines_end h =
      let e : all - i ≡ 0 = omega arith in
      let s : i ≡ all = omega (arith, o.upto) in
      rw s at (rw (e, lines) at o.comes)
