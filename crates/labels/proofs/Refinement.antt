-- What the functions on packed labels make of the numbers of labels: the numbers of what `meaning` makes of the labels. A label has
-- at most 24 names; that its number has digits past them changes nothing.
-- Assumes nothing.
use Rattle.std.specs.Prelude.{Some, None}
use Rattle.std.proofs.Common.{◌≡◌, ℕ, zero, suc, ◌+◌, ◌-◌, ◌*◌, ◌/◌, ◌%◌, ◌^◌, ◌<◌, ◌≤◌, Bool, true, ◌&&◌, T, ltb, leb, [], ◌∷◌, ◌++◌, length, replicate, sym, refl, ap, ◌∙◌, lt_of_lt_of_le, mod-eq_of_lt, pow-suc, arith, lit<}
use native.Mathlib.Nat.{pow-le-pow_right}
use Rattle.meaning.specs.Labels.{Label, count, size, number, label_of, single, plus, inside, minus}
use Rattle.meaning.proofs.Bags.{number-plus, number-minus, size-plus}
use Rattle.meaning.proofs.Digits.{Small, size→small}
use Rattle.labels.specs.Packing.{packed}
use Rattle.meaning.specs.Rounds.{pick}
use Rattle.labels.specs.Bags.{bag, size_of, sum_of}
use Rattle.labels.proofs.Words.{number-several}
use Rattle.labels.proofs.Sizes.{folded-few}

-- A label over so many names, with at most 31 actions: what two words pack.
pub record Packs (names : ℕ) (a : Label) : Type 0 where
  pub wide : length a ≡ names
  pub few : size a ≤ 31

pub packs-small : {names : ℕ} {a : Label} → Packs names a → Small a
packs-small {names} {a} p = size→small a p.few

-- A label with zeros for the names that it lacks.
unfoldable pub padded : ℕ → Label → Label
padded more a = a ++ replicate more 0

count_zeros : (more n : ℕ) → count (replicate more 0) n ≡ 0
count_zeros zero n = refl
count_zeros (suc more) zero = refl
count_zeros (suc more) (suc n) = count_zeros more n

pub count-padded : (more : ℕ) (a : Label) (n : ℕ) → count (padded more a) n ≡ count a n
unfolding padded
count-padded more [] n = count_zeros more n
count-padded more (x ∷ a) zero = refl
count-padded more (x ∷ a) (suc n) = count-padded more a n

pub number-padded : (more : ℕ) (a : Label) → number (padded more a) ≡ number a
unfolding padded number
number-padded zero [] = refl
number-padded (suc more) [] = omega (arith, number-padded more [])
number-padded more (x ∷ a) = ap (λ (n : ℕ). x + 32 * n) (number-padded more a)

size-padded : (more : ℕ) (a : Label) → size (padded more a) ≡ size a
unfolding padded size
size-padded zero [] = refl
size-padded (suc more) [] = omega (arith, size-padded more [])
size-padded more (x ∷ a) = ap (λ (n : ℕ). x + n) (size-padded more a)

inside-zeros : (m n : ℕ) → inside (replicate m 0) (replicate n 0) ≡ true
unfolding inside
inside-zeros zero n = refl
inside-zeros (suc m) zero = inside-zeros m zero
inside-zeros (suc m) (suc n) = inside-zeros m n

inside-padded : (more : ℕ) (a b : Label) → length a ≡ length b → inside (padded more a) (padded more b) ≡ inside a b
unfolding inside padded
inside-padded more [] [] e = inside-zeros more more
inside-padded more [] (y ∷ b) e = absurd (omega arith)
inside-padded more (x ∷ a) [] e = absurd (omega arith)
inside-padded more (x ∷ a) (y ∷ b) e = ap (λ (t : Bool). leb x y && t) (inside-padded more a b (omega arith))

-- The digits of a label's number are the label, padded.
zeros-label_of : (more : ℕ) → label_of more 0 ≡ replicate more 0
unfolding label_of
zeros-label_of zero = refl
zeros-label_of (suc more) = ap (λ (a : Label). 0 ∷ a) (zeros-label_of more)

label_of-padded : (more : ℕ) (a : Label) → Small a → label_of (length a + more) (number a) ≡ padded more a
unfolding label_of number padded
label_of-padded more [] h = let e : 0 + more ≡ more = omega arith in rw e (zeros-label_of more)
label_of-padded more (x ∷ a) h =
    let s : suc (length a) + more ≡ suc (length a + more) = omega arith in
    let lo : (x + 32 * number a) % 32 ≡ x = omega (arith, h.0) in
    let hi : (x + 32 * number a) / 32 ≡ number a = omega (arith, h.0) in
    rw (s, lo, hi, label_of-padded more a h.1)

module _ (names : ℕ) (few : names ≤ 24) where
  pub label_of-number-padded : (most : ℕ) (a : Label) → names ≤ most → Packs names a → label_of most (number a) ≡ padded (most - names) a
  label_of-number-padded most a l p =
      let e : length a + (most - names) ≡ most = omega (arith, p.wide) in
      rw e at (label_of-padded (most - names) a (packs-small p))

  pub bag-number : (a : Label) → Packs names a → bag (number a) ≡ padded (25 - names) a
  bag-number a p = label_of-number-padded 25 a (omega arith) p

  pub inside-number : (a b : Label) → Packs names a → Packs names b → inside (bag (number a)) (bag (number b)) ≡ inside a b
  inside-number a b p q = rw (bag-number a p, bag-number b q) (inside-padded (25 - names) a b (omega (arith, p.wide, q.wide)))

  pub single-number : (n : ℕ) → n < names → number (single 24 n) ≡ number (single names n)
  single-number n h = number-several 24 n 1 (omega arith) ∙ sym (number-several names n 1 h)

-- Size, sum, difference.
pub number_bound : (a : Label) → Small a → number a < 32 ^ length a
unfolding number
number_bound [] h = lit< tt
number_bound (x ∷ a) h = let e = pow-suc 32 (length a) in let ih = number_bound a h.1 in omega (arith, h.0)

pub number_fits : {names : ℕ} (a : Label) → names ≤ 24 → Packs names a → number a < 2 ^ 120
number_fits {names} a l p =
    lt_of_lt_of_le (number_bound a (packs-small p)) (pow-le-pow_right {n = 32} (lit< tt) {j = 24} (omega (arith, p.wide)))

pub size_number : {names : ℕ} (a : Label) → names ≤ 24 → Packs names a → size_of (number a) ≡ size a
unfolding size_of
size_number {names} a l p = rw (bag-number names l a p, size-padded (25 - names) a) (folded-few (size a) p.few)

pub sum_number : {names : ℕ} (a b : Label) → names ≤ 24 → Packs names a → Packs names b
    → sum_of (number a) (number b) ≡ pick (ltb 31 (size (plus a b))) None (Some (packed (number (plus a b))))
unfolding sum_of
sum_number a b l p q =
    let fits : (number a + number b) % 2 ^ 124 ≡ number (plus a b) =
    mod-eq_of_lt (omega (arith, number_fits a l p, number_fits b l q)) ∙ sym (number-plus a b) in
    rw (size_number a l p, size_number b l q, fits, size-plus a b)

pub difference-number : (a b : Label) → T (inside b a) → number a - number b ≡ number (minus a b)
difference-number a b t = let e = number-minus a b t in omega arith
