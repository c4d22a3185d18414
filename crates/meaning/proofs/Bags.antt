-- The laws of bags: sum, size, sub-bag, difference, actions of one name. None asks anything of the labels' lengths.
-- Assumes nothing.
use mathlib.Core.Path.{◌≡◌, refl, sym, ap, ap₂, ◌∙◌}
use mathlib.Core.List.{[], ◌∷◌}
use Prim.Native.Nat.{ℕ, zero, suc, ◌+◌, ◌*◌, ◌-◌, ◌≤◌, zero-le}
use native.Mathlib.Nat.{add_comm, add_assoc, zero-sub, sub-zero, add-zero, zero-add, mul-add}
use native.Mathlib.Omega.{arith}
use lib.Dec.{T, leb, eqb, leb→le, le→leb, eqb→eq, eqb_refl}
use lib.ListN.{length, length-set, length-replicate}
use Rattle.meaning.specs.Labels.{Label, count, size, number, empty, several, plus, inside, minus}
use Rattle.meaning.proofs.Tests.{and_left, and_right, and_both}

abbrev cons : {x y : ℕ} {a b : Label} → x ≡ y → a ≡ b → (x ∷ a) ≡ (y ∷ b)
cons p q = ap₂ {C = Label} ◌∷◌ p q

-- Sum.
pub plus_none : (a : Label) → plus a [] ≡ a
unfolding plus
plus_none [] = refl
plus_none (x ∷ a) = refl

pub plus_comm : (a b : Label) → plus a b ≡ plus b a
unfolding plus
plus_comm [] b = sym (plus_none b)
plus_comm (x ∷ a) [] = refl
plus_comm (x ∷ a) (y ∷ b) = cons (add_comm x y) (plus_comm a b)

pub plus_assoc : (a b c : Label) → plus (plus a b) c ≡ plus a (plus b c)
unfolding plus
plus_assoc [] b c = refl
plus_assoc (x ∷ a) [] c = refl
plus_assoc (x ∷ a) (y ∷ b) [] = refl
plus_assoc (x ∷ a) (y ∷ b) (z ∷ c) = cons (add_assoc x y z) (plus_assoc a b c)

pub count-plus : (a b : Label) (n : ℕ) → count (plus a b) n ≡ count a n + count b n
unfolding plus
count-plus [] b n = sym (zero-add (count b n))
count-plus (x ∷ a) [] n = sym (add-zero (count (x ∷ a) n))
count-plus (x ∷ a) (y ∷ b) zero = refl
count-plus (x ∷ a) (y ∷ b) (suc n) = count-plus a b n

pub length-plus : (n : ℕ) (a b : Label) → length a ≡ n → length b ≡ n → length (plus a b) ≡ n
unfolding plus
length-plus n [] b p q = q
length-plus n (x ∷ a) [] p q = p
length-plus n (x ∷ a) (y ∷ b) p q = ap suc (length-plus (length a) a b refl (omega arith)) ∙ p

-- Sub-bag and difference.
pub inside-counts : (a b : Label) → T (inside a b) → (n : ℕ) → count a n ≤ count b n
unfolding inside
inside-counts [] b t n = zero-le
inside-counts (x ∷ a) [] t zero = let e = eqb→eq x 0 (and_left (eqb x 0) (inside a []) t) in omega arith
inside-counts (x ∷ a) [] t (suc n) = inside-counts a [] (and_right (eqb x 0) (inside a []) t) n
inside-counts (x ∷ a) (y ∷ b) t zero = leb→le x y (and_left (leb x y) (inside a b) t)
inside-counts (x ∷ a) (y ∷ b) t (suc n) = inside-counts a b (and_right (leb x y) (inside a b) t) n

pub counts-inside : (a b : Label) → ((n : ℕ) → count a n ≤ count b n) → T (inside a b)
unfolding inside
counts-inside [] b h = tt
counts-inside (x ∷ a) [] h =
    let e : 0 ≡ x = omega (arith, h 0) in
    and_both (eqb x 0) (inside a []) (rw (sym e) (eqb_refl 0)) (counts-inside a [] (λ n. h (suc n)))
counts-inside (x ∷ a) (y ∷ b) h = and_both (leb x y) (inside a b) (le→leb x y (h 0)) (counts-inside a b (λ n. h (suc n)))

pub inside-plus : (a b c : Label) → T (inside a b) → T (inside a (plus b c))
inside-plus a b c t = counts-inside a (plus b c) (λ n. let h = inside-counts a b t n in let e = count-plus b c n in omega arith)

pub count-minus : (a b : Label) (n : ℕ) → count (minus a b) n ≡ count a n - count b n
unfolding minus
count-minus [] b n = sym (zero-sub (count b n))
count-minus (x ∷ a) [] n = sym (sub-zero (count (x ∷ a) n))
count-minus (x ∷ a) (y ∷ b) zero = refl
count-minus (x ∷ a) (y ∷ b) (suc n) = count-minus a b n

pub length-minus : (a b : Label) → length (minus a b) ≡ length a
unfolding minus
length-minus [] b = refl
length-minus (x ∷ a) [] = refl
length-minus (x ∷ a) (y ∷ b) = ap suc (length-minus a b)

-- nothing but zeros is taken away
minus-zeros : (a b : Label) → T (inside b []) → minus a b ≡ a
unfolding minus inside
minus-zeros [] b t = refl
minus-zeros (x ∷ a) [] t = refl
minus-zeros (x ∷ a) (y ∷ b) t =
    let e = eqb→eq y 0 (and_left (eqb y 0) (inside b []) t) in
    cons (omega arith) (minus-zeros a b (and_right (eqb y 0) (inside b []) t))

-- what is taken out of the first of two labels is taken out of their sum
pub minus_plus : (a b c : Label) → T (inside c a) → minus (plus a b) c ≡ plus (minus a c) b
unfolding minus plus inside
minus_plus [] b c t = minus-zeros b c t
minus_plus (x ∷ a) [] [] t = refl
minus_plus (x ∷ a) [] (z ∷ c) t = refl
minus_plus (x ∷ a) (y ∷ b) [] t = refl
minus_plus (x ∷ a) (y ∷ b) (z ∷ c) t =
    let h = leb→le z x (and_left (leb z x) (inside c a) t) in
    cons (omega arith) (minus_plus a b c (and_right (leb z x) (inside c a) t))

-- What adds up place by place, each place weighed like the one before it: proved once, for the size and for the number.
module _ (weight : Label → ℕ) (shift : ℕ → ℕ) (none : weight [] ≡ 0) (more : (x : ℕ) (a : Label) → weight (x ∷ a) ≡ x + shift (weight a))
    (shift_zero : shift 0 ≡ 0) (shift-plus : (m n : ℕ) → shift (m + n) ≡ shift m + shift n) where
  weight-plus : (a b : Label) → weight (plus a b) ≡ weight a + weight b
  unfolding plus
  weight-plus [] b = omega arith
  weight-plus (x ∷ a) [] = omega arith
  weight-plus (x ∷ a) (y ∷ b) =
      let ih = ap shift (weight-plus a b) in
      omega (arith, shift-plus (weight a) (weight b), more x a, more y b, more (x + y) (plus a b))

  weight-minus : (a b : Label) → T (inside b a) → weight (minus a b) + weight b ≡ weight a
  unfolding minus inside
  weight-minus [] [] t = omega arith
  weight-minus [] (y ∷ b) t =
      let e = eqb→eq y 0 (and_left (eqb y 0) (inside b []) t) in
      let ih : weight b ≡ 0 = omega (arith, weight-minus [] b (and_right (eqb y 0) (inside b []) t)) in
      omega (arith, more y b, ap shift ih)
  weight-minus (x ∷ a) [] t = omega arith
  weight-minus (x ∷ a) (y ∷ b) t =
      let h = leb→le y x (and_left (leb y x) (inside b a) t) in
      let ih = ap shift (weight-minus a b (and_right (leb y x) (inside b a) t)) in
      omega (arith, shift-plus (weight (minus a b)) (weight b), more x a, more y b, more (x - y) (minus a b))

pub size-plus : (a b : Label) → size (plus a b) ≡ size a + size b
unfolding size
size-plus = weight-plus size (λ n. n) refl (λ x a. refl) refl (λ m n. refl)

pub size-minus : (a b : Label) → T (inside b a) → size (minus a b) + size b ≡ size a
unfolding size
size-minus = weight-minus size (λ n. n) refl (λ x a. refl) refl (λ m n. refl)

pub number-plus : (a b : Label) → number (plus a b) ≡ number a + number b
unfolding number
number-plus = weight-plus number (λ n. 32 * n) refl (λ x a. refl) refl (mul-add 32)

pub number-minus : (a b : Label) → T (inside b a) → number (minus a b) + number b ≡ number a
unfolding number
number-minus = weight-minus number (λ n. 32 * n) refl (λ x a. refl) refl (mul-add 32)

-- Actions of one name.
pub length-several : (names n times : ℕ) → length (several names n times) ≡ names
length-several names n times = length-set (empty names) n times ∙ length-replicate names 0

pub size-empty : (names : ℕ) → size (empty names) ≡ 0
unfolding size
size-empty zero = refl
size-empty (suc names) = let ih = size-empty names in omega arith

pub size-several : (names n times : ℕ) → size (several names n times) ≤ times
unfolding size
size-several zero n times = zero-le
size-several (suc names) zero times = let e = size-empty names in omega arith
size-several (suc names) (suc n) times = let ih = size-several names n times in omega arith
