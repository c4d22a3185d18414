-- How many entries a list can have: a text has room for no more than one for each byte, and one.
-- Assumes nothing.
use Prim.Native.Nat.{ℕ, zero, suc, ◌≤◌, suc-le-suc}
use native.Mathlib.Omega.{arith}
use lib.ListN.{length}
use Rattle.meaning.specs.Bytes.{Text, ascii}
use Rattle.grammar.specs.Text.{Past, byte, starts, is_rest, separated_on}
use Rattle.grammar.specs.Forms.{label_list}
use Rattle.grammar.proofs.Onwards.{When, when-past, when-stuck, when-branch, onward→}

anything : {A : Type 0} (m : Past A) → When m (λ a r. Unit {0})
anything m = record { holds = λ a r e. tt }

pub several-few : {A : Type 0} (by : ℕ) (item : Text → Past A) (more : ℕ) (s : Text) → When (separated_on by item more s) (λ xs r. length xs ≤ more)
unfolding separated_on
several-few by item zero s = when-stuck
several-few by item (suc more) s =
    onward→ (anything (item s)) (λ a r _. when-branch (starts by r)
    (λ _. onward→ (anything (byte by r)) (λ _ q _. onward→ (several-few by item more q) (λ xs p h. when-past (suc-le-suc h))))
    (λ _. when-past (omega arith)))

pub labels-several : (s : Text) → When (label_list s) (λ ls r. length ls ≤ suc (length s))
unfolding label_list
labels-several s = when-branch (is_rest (ascii "none") s) (λ _. when-past (omega arith)) (λ _. several-few _ _ (suc (length s)) s)
