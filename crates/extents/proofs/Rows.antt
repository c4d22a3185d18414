-- Parts that a row of numbers keeps, and what stands in them.
-- Assumes nothing.
use mathlib.Core.Path.{◌≡◌, sym, ap, ap₂, ◌∙◌}
use mathlib.Core.Bool.{true}
use mathlib.Core.List.{List, [], ◌∷◌}
use Prim.Native.Nat.{ℕ, zero, suc, ◌+◌, ◌*◌, ◌-◌, ◌≤◌, ◌<◌, min}
use native.Mathlib.Nat.{sub-zero, zero-sub, suc-sub-suc}
use native.Mathlib.Omega.{arith}
use borrow.Author.Tests.{leb-true}
use lib.ListN.{length, take, drop, set, length-take, length-drop, length-set, drop_of_length-le, get_or-eq_default}
use lib.Seq.{get_or-set_same, get_or-set_other, set_out, take-take, take-nil, drop-nil}
use Rattle.parts.specs.declared.Part.{Part}
use Rattle.parts.specs.Parts.{part}
use Rattle.extents.specs.Extents.{part_at, with_part, is_empty, words_in}

-- A part by its two numbers.
pub part-as : {from to from' to' : ℕ} → from ≡ from' → to ≡ to' → ◌≡◌ {A = Part} (record { from = from; to = to }) (record { from = from'; to = to' })
part-as e f = ap₂ (λ (x y : ℕ). record { from = x; to = y }) e f

-- The row after a part was entered: that part, and every other as before.
pub part-set : (row : List ℕ) (i : ℕ) (p : Part) → 2 * i + 1 < length row → part_at (with_part row i p) i ≡ p
part-set row i p h =
    let first = set row (2 * i) p.from in
    part-as
    (get_or-set_other first (2 * i + 1) (2 * i) p.to 0 (λ e. omega arith) ∙ get_or-set_same row (2 * i) p.from 0 (omega arith))
    (get_or-set_same first (2 * i + 1) p.to 0 (rw (length-set row (2 * i) p.from) h))

pub part-other : (row : List ℕ) (i j : ℕ) (p : Part) → (j ≡ i → ⊥) → part_at (with_part row i p) j ≡ part_at row j
part-other row i j p other =
    let first = set row (2 * i) p.from in
    part-as
    (get_or-set_other first (2 * i + 1) (2 * j) p.to 0 (λ e. omega arith)
    ∙ get_or-set_other row (2 * i) (2 * j) p.from 0 (λ e. other (omega arith)))
    (get_or-set_other first (2 * i + 1) (2 * j + 1) p.to 0 (λ e. other (omega arith))
    ∙ get_or-set_other row (2 * i) (2 * j + 1) p.from 0 (λ e. omega arith))

pub length-with_part : (row : List ℕ) (i : ℕ) (p : Part) → length (with_part row i p) ≡ length row
length-with_part row i p = length-set (set row (2 * i) p.from) (2 * i + 1) p.to ∙ length-set row (2 * i) p.from

-- past the end of the row
pub part-past : (row : List ℕ) (i : ℕ) → length row ≤ i → part_at row i ≡ record { from = 0; to = 0 }
part-past row i h = part-as (get_or-eq_default row 0 (omega arith)) (get_or-eq_default row 0 (omega arith))

pub with_part-past : (row : List ℕ) (i : ℕ) (p : Part) → length row ≤ i → with_part row i p ≡ row
with_part-past row i p h =
    ap (λ (l : List ℕ). set l (2 * i + 1) p.to) (set_out row (2 * i) p.from (omega arith)) ∙ set_out row (2 * i + 1) p.to (omega arith)

-- What stands in a part.
pub words-length : (p : Part) (ls : List ℕ) → length (words_in p ls) ≡ min p.to (length ls) - p.from
words-length p ls = length-drop p.from (take p.to ls) ∙ ap (λ (n : ℕ). n - p.from) (length-take p.to ls)

-- nothing, where it ends before it begins or begins past the end
pub words-none : (p : Part) (ls : List ℕ) → min p.to (length ls) ≤ p.from → words_in p ls ≡ []
words-none p ls h = drop_of_length-le (take p.to ls) {i = p.from} (rw (length-take p.to ls) h)

pub words-empty : (p : Part) (ls : List ℕ) → is_empty p ≡ true → words_in p ls ≡ []
words-empty p ls e = let h = leb-true p.to p.from e in words-none p ls (omega arith)

-- the same in every list that agrees up to the part's end
pub words-grown : {n : ℕ} (p : Part) (ls ls' : List ℕ) → take n ls ≡ take n ls' → p.to ≤ n → words_in p ls' ≡ words_in p ls
words-grown {n} p ls ls' e h =
    ap (drop p.from) (sym (take-take p.to n ls' h) ∙ ap (take p.to) (sym e) ∙ take-take p.to n ls h)

-- The same cut out of the words the other way round: first what stands before it goes, and then what stands behind it.
part_cut : (from to : ℕ) (ls : List ℕ) → take (to - from) (drop from ls) ≡ part from to ls
part_cut zero to ls = ap (λ (n : ℕ). take n ls) (sub-zero to)
part_cut (suc from) zero ls = ap (λ (n : ℕ). take n (drop (suc from) ls)) (zero-sub (suc from)) ∙ sym (drop-nil (suc from))
part_cut (suc from) (suc to) [] = take-nil (suc to - suc from)
part_cut (suc from) (suc to) (x ∷ ls) = ap (λ (n : ℕ). take n (drop from ls)) (suc-sub-suc to from) ∙ part_cut from to ls

pub words-cut : (from to : ℕ) (p : Part) (ls : List ℕ) → from ≡ p.from → take to ls ≡ take p.to ls
    → take (to - from) (drop from ls) ≡ words_in p ls
words-cut from to p ls e f = part_cut from to ls ∙ ap₂ (λ (n : ℕ) (l : List ℕ). drop n l) e f
