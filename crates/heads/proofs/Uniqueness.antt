-- What is promised of the lines before the terms settles the answer, and the table where no line is bad.
-- Assumes nothing.
use mathlib.Core.Path.{◌≡◌}
use mathlib.Core.List.{List}
use Prim.Native.Nat.{ℕ, ◌+◌}
use native.Mathlib.Decide.{dec_le}
use lib.ListN.{length}
use Rattle.std.specs.Prelude.{Result, OnOk}
use Rattle.meaning.specs.Bytes.{Text}
use Rattle.meaning.proofs.Alike.{alike}
use Rattle.words.specs.declared.Taken.{Taken}
use Rattle.keyed.specs.declared.BadLine.{BadLine}
use Rattle.sections.proofs.Uniqueness.{on_ok, comes-once, given-once}
use Rattle.heads.specs.Heads.{head_text, HeadGiven}

pub head-once : {text : Text} {table table₁ table₂ : List ℕ} (r s : Result (Taken ℕ) BadLine) → HeadGiven text table table₁ r → HeadGiven text table table₂ s
    → (r ≡ s) × OnOk r (table₁ ≡ table₂)
head-once {text} {table} r s p q =
    given-once (dec_le 140 (length table))
    (λ a b. comes-once text (head_text text) (λ h. 4 + length h.words)
    (λ v w h k l. (alike k.returned l.returned, alike k.laid l.laid)) r s a.came b.came)
    (λ a b. (alike a.0 b.0, on_ok r (alike a.1 b.1))) p q
