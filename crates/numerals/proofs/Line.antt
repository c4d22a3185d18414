-- A line: its key, its value and its end, one behind the other, and whether they fit.
-- Assumes nothing.
use mathlib.Core.Path.{◌≡◌, sym}
use mathlib.Core.List.{[], ◌∷◌, ◌++◌, append_assoc}
use Prim.Native.Nat.{ℕ, ◌+◌, ◌≤◌, ◌<◌}
use native.Mathlib.Omega.{arith}
use lib.ListN.{length, set, length-append}
use Rattle.meaning.specs.Bytes.{Text}
use Rattle.grammar.specs.Forms.{lf}
use Rattle.grammar.specs.Printed.{line}
use Rattle.grammar.specs.Areas.{Written}
use Rattle.grammar.proofs.Underway.{Underway, underway-first, lent, back, underway-step, underway-byte}
use Rattle.grammar.proofs.Underway.{underway-end, underway-kept, underway-room, written-length}

pub length-line : (key value : Text) → length (line key value) ≡ length key + length value + 1
length-line key value = rw (length-append (key ++ value) (lf ∷ []), length-append key value)

pub key→underway : (key value : Text) {before mid : Text} {k : ℕ} → length (line key value) ≤ length before → Written key before mid k →
    Underway (line key value) (value ++ (lf ∷ [])) before mid k
key→underway key value h u = underway-first (sym (append_assoc key value (lf ∷ []))) h u

-- A line whose key and value are written and whose end is stored behind them: what the writers of lines have to show.
pub record Ended (key value before mid part : Text) (k r : ℕ) : Type 0 where
  pub below : k + r < length before
  pub inside : k + r < length (back k mid part)
  pub written : Written (line key value) before (set (back k mid part) (k + r) lf) (k + r + 1)
  pub same : length (set (back k mid part) (k + r) lf) ≡ length before

pub value→ended : (key value : Text) {before mid part : Text} {k r : ℕ} → length (line key value) ≤ length before → Written key before mid k →
    Written value (lent k mid) part r → Ended key value before mid part k r
value→ended key value h u v =
    let w = underway-step (key→underway key value h u) v in
    let e = underway-end (underway-byte w) in
    record { below = omega (arith, underway-room w, underway-kept w); inside = omega (arith, underway-room w); written = e; same = written-length h e }
