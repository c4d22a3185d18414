-- What a step over a line says, by its case.
-- Assumes nothing.
use mathlib.Core.Path.{◌≡◌, ap, ◌∙◌}
use Prim.Native.Nat.{ℕ, ◌≤◌, ◌<◌}
use native.Mathlib.Omega.{arith}
use lib.ListN.{length, drop}
use Rattle.std.specs.Prelude.{Result, Ok, Err}
use Rattle.meaning.specs.Bytes.{Text}
use Rattle.meaning.specs.Answers.{Fault}
use Rattle.faults.specs.CodedFaults.{flaw_of}
use Rattle.faults.specs.declared.Flaw.{Flaw}
use Rattle.grammar.specs.Reading as G
use Rattle.grammar.specs.Reading.{faulty, flaw_in, Walk, reached, halted, after_line}
use Rattle.keyed.specs.Numbers.{NumberTo}
use Rattle.keyed.specs.Walks.{refusal, Walks}
use Rattle.words.specs.declared.Taken.{Taken}
use Rattle.keyed.specs.declared.BadLine.{BadLine}

module _ {A : Type 0} {value : ℕ → A} {text : Text} {next : ℕ} {r : Result (Taken ℕ) BadLine} {due : Walk A} (w : Walks value text next r due) where
  pub gone-to : {t : Taken ℕ} → r ≡ Ok t → reached (value t.value) next (drop t.bytes text) ≡ due
  gone-to e = (rw e at w).says

  pub gone-within : {t : Taken ℕ} → r ≡ Ok t → t.bytes ≤ length text
  gone-within e = (rw e at w).within

  pub gone-bad : {b : BadLine} → r ≡ Err b → halted (flaw_of b.flaw) b.line ≡ due
  gone-bad e = (rw e at w).says

  pub gone-before : {b : BadLine} → r ≡ Err b → b.line < next
  gone-before e = (rw e at w).within

pub gone-below : {text : Text} {line below : ℕ} {r : Result (Taken ℕ) BadLine} {due : Walk ℕ}
    → NumberTo text line below r due → {t : Taken ℕ} → r ≡ Ok t → t.value < below
gone-below w e = (rw e at w).bounded

-- a line that is refused
pub line-bad : {A : Type 0} (line : ℕ) (text : Text) {t : G.Taken A} {x : Fault} {from : ℕ} {w : G.Flaw} → w ≡ flaw_in text x from → faulty x from ≡ t
    → halted w line ≡ after_line line text t
line-bad line text e q = ap (λ w. halted w line) e ∙ ap (after_line line text) q

pub number_to-bad : {text : Text} {line below : ℕ} {due : Walk ℕ} {f : Flaw} → halted (flaw_of f) line ≡ due
    → NumberTo text line below (refusal f line) due
number_to-bad q = record { walks = record { says = q; within = omega arith }; bounded = tt }
