-- `memory::slot` meets its contract. What is squared is below 1001003, so that the square fits.
-- Assumes nothing.
use mathlib.Core.Path.{ap}
use Prim.Native.Nat.{ℕ, ◌+◌, ◌*◌, ◌%◌, ◌^◌, ◌≤◌, ◌<◌}
use native.Mathlib.Nat.{mul-le-mul}
use native.Mathlib.Omega.{arith}
use Rattle.memory.specs.Memory.{slot_of}
use Rattle.memory.proofs.slot.Goals as goal
use Rattle.memory.proofs.slot.Goals.{After-residue-short}

-- the square of a remainder with something added
square : (short : ℕ) → short < 1001003 → short * short < 2 ^ 64
square short h =
    let m : short * short ≤ 1001002 * 1001002 = let l : short ≤ 1001002 = omega arith in mul-le-mul l l in
    omega arith

short-of : (c : After-residue-short) → c.residue-short.result < 1000003
short-of c = rw c.residue-short.ensures (omega arith)

pub overflow_add-short : goal.overflow_add-short
overflow_add-short c = omega (arith, short-of (goal.at.overflow_add-short c).After-residue-short)

pub overflow_mul-result : goal.overflow_mul-result
overflow_mul-result c = omega (arith, square (c.residue-short.result + 1000) (omega (arith, short-of (goal.at.overflow_mul-result c).After-residue-short)))

pub returns : goal.returns
unfolding slot_of
returns c = (ap (λ (r : ℕ). ((r + 1000) * (r + 1000) % 1000003) % 503) c.residue-short.ensures, omega arith)
