-- `printing::lines::write_head` meets its contract: what is said and two lines, one behind the other.
-- Assumes nothing.
use mathlib.Core.Path.{◌≡◌, refl}
use mathlib.Core.List.{◌++◌}
use Prim.Native.Nat.{ℕ, ◌+◌, ◌≤◌}
use native.Mathlib.Omega.{arith}
use lib.ListN.{length, length-append}
use Rattle.std.specs.Prelude.{Option, Some}
use Rattle.meaning.specs.Bytes.{Text}
use Rattle.grammar.specs.Marks.{decimal}
use Rattle.grammar.specs.Printed.{line}
use Rattle.printing.specs.Steps.{head_text}
use Rattle.grammar.proofs.Areas.{some→written}
use Rattle.grammar.specs.Areas.{Written, WrittenOrNone}
use Rattle.grammar.proofs.Underway.{Underway, underway-first, lent, back, underway-step, underway-last, next-room, lent-room}
use Rattle.printing.proofs.lines.write_head.Goals as goal

-- What is said, two lines, and the whole head.
module _ (said key next : Text) (n m : ℕ) {before mid : Text} {k : ℕ} (fits : length (head_text said key n next m) ≤ length before)
    (u : Written said before mid k) where
  -- what is said is written, and the lines are to come
  said-written : Underway (head_text said key n next m) (line key (decimal n) ++ line next (decimal m)) before mid k
  said-written = underway-first {s = said} refl fits u

  -- the first line is written too
  line-written : {part : Text} {o : Option ℕ} {r : ℕ} → WrittenOrNone (line key (decimal n)) (lent k mid) part o → o ≡ Some r
      → Underway (head_text said key n next m) (line next (decimal m)) before (back k mid part) (k + r)
  line-written p e = underway-step said-written (some→written (next-room (line key (decimal n)) (line next (decimal m)) said-written) p e)

pub returns : goal.returns
returns c =
    let a = c.args in
    let said = a.said.now in
    let lines = line a.key.now (decimal a.n) ++ line a.next_key.now (decimal a.m) in
    let first = some→written (omega (arith, c.requires, length-append said lines)) c.copy.ensures c.unwrap-first.ensures in
    let w = line-written said a.key.now a.next_key.now a.n a.m c.requires first c.write_count_line.ensures c.unwrap.ensures in
    underway-last w (some→written (lent-room w) c.write_count_line-2.ensures c.unwrap-2.ensures)
