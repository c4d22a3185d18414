-- Parts of a list that reach past its end.
-- Assumes nothing.
use mathlib.Core.Path.{◌≡◌, sym, ap, ◌∙◌}
use mathlib.Core.List.{List, []}
use Prim.Native.Nat.{ℕ, ◌-◌, ◌≤◌}
use native.Mathlib.Omega.{arith}
use lib.ListN.{length, take, drop, length-drop, drop_of_length-le}
use lib.Seq.{take_all, take-nil}

pub take-drop-past : (l : List ℕ) (at n : ℕ) → length l ≤ at → [] ≡ take n (drop at l)
take-drop-past l at n h = sym (ap (take n) (drop_of_length-le l h) ∙ take-nil n)

-- two counts that both take all there is
pub take_drop_all : (l : List ℕ) (at m n : ℕ) → length l - at ≤ m → length l - at ≤ n → take m (drop at l) ≡ take n (drop at l)
take_drop_all l at m n p q =
    let e = length-drop at l in
    take_all m (drop at l) (omega arith) ∙ sym (take_all n (drop at l) (omega arith))
