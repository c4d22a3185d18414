-- Words and the labels that they hold: so many labels are two words each.
-- Assumes nothing.
use mathlib.Core.Path.{◌≡◌, refl, sym, ap, ap₂, ◌∙◌}
use mathlib.Core.List.{List, [], ◌∷◌, ◌++◌}
use Prim.Native.Nat.{ℕ, zero, suc, ◌+◌, ◌*◌, ◌/◌, ◌%◌, ◌^◌, ◌<◌}
use native.Mathlib.Omega.{arith}
use lib.ListN.{length, take, drop, replicate, get_or, set}
use Rattle.meaning.specs.Labels.{in_words}
use Rattle.areas.specs.Rows.{held}

two-more : (n : ℕ) → 2 * suc n ≡ suc (suc (2 * n))
two-more n = omega arith

pub length-held : (ws : List ℕ) → length (held ws) ≡ length ws / 2
unfolding held
length-held [] = refl
length-held (l ∷ []) = refl
length-held (l ∷ u ∷ ws) = omega (arith, length-held ws)

pub held_none : held [] ≡ []
unfolding held
held_none = refl

pub held-take : (n : ℕ) (ws : List ℕ) → held (take (2 * n) ws) ≡ take n (held ws)
unfolding held
held-take zero ws = refl
held-take (suc n) [] = rw (two-more n)
held-take (suc n) (l ∷ []) = rw (two-more n)
held-take (suc n) (l ∷ u ∷ ws) = rw (two-more n) (ap (λ (r : List ℕ). (l % 2 ^ 60 + 2 ^ 60 * u) ∷ r) (held-take n ws))

pub held-drop : (n : ℕ) (ws : List ℕ) → held (drop (2 * n) ws) ≡ drop n (held ws)
unfolding held
held-drop zero ws = refl
held-drop (suc n) [] = rw (two-more n)
held-drop (suc n) (l ∷ []) = rw (two-more n)
held-drop (suc n) (l ∷ u ∷ ws) = rw (two-more n) (held-drop n ws)

pub held-zeros : (n : ℕ) → held (replicate (2 * n) 0) ≡ replicate n 0
unfolding held
held-zeros zero = refl
held-zeros (suc n) = rw (two-more n) (ap (λ (r : List ℕ). 0 ∷ r) (held-zeros n))

pub held-append : (n : ℕ) (a b : List ℕ) → length a ≡ 2 * n → held (a ++ b) ≡ held a ++ held b
unfolding held
held-append n [] b e = refl
held-append n (l ∷ []) b e = absurd (omega arith)
held-append zero (l ∷ u ∷ a) b e = absurd (omega arith)
held-append (suc n) (l ∷ u ∷ a) b e = ap (λ (r : List ℕ). (l % 2 ^ 60 + 2 ^ 60 * u) ∷ r) (held-append n a b (omega arith))

pub held-in_words : (ns : List ℕ) → held (in_words ns) ≡ ns
unfolding held in_words
held-in_words [] = refl
held-in_words (n ∷ ns) = ap₂ {C = List ℕ} ◌∷◌ (omega arith) (held-in_words ns)

pub length-in_words : (ns : List ℕ) → length (in_words ns) ≡ 2 * length ns
unfolding in_words
length-in_words [] = refl
length-in_words (n ∷ ns) = omega (arith, length-in_words ns)

-- words that are as many hold as many labels
pub held-long : (ws vs : List ℕ) → length ws ≡ length vs → length (held ws) ≡ length (held vs)
held-long ws vs e = length-held ws ∙ ap (λ (n : ℕ). n / 2) e ∙ sym (length-held vs)

-- One label is read and written.
two-more-above : (n : ℕ) → 2 * suc n + 1 ≡ suc (suc (2 * n + 1))
two-more-above n = omega arith

pub held-get : (i : ℕ) (ws : List ℕ) → i < length ws / 2 → get_or (held ws) i 0 ≡ get_or ws (2 * i) 0 % 2 ^ 60 + 2 ^ 60 * get_or ws (2 * i + 1) 0
unfolding held
held-get i [] h = absurd (omega arith)
held-get i (l ∷ []) h = absurd (omega arith)
held-get zero (l ∷ u ∷ ws) h = refl
held-get (suc i) (l ∷ u ∷ ws) h = rw (two-more-above i, two-more i) (held-get i ws (omega arith))

pub held-set : (i : ℕ) (ws : List ℕ) (l u : ℕ) → held (set (set ws (2 * i) l) (2 * i + 1) u) ≡ set (held ws) i (l % 2 ^ 60 + 2 ^ 60 * u)
unfolding held
held-set zero [] l u = refl
held-set zero (a ∷ []) l u = refl
held-set zero (a ∷ b ∷ ws) l u = refl
held-set (suc i) [] l u = refl
held-set (suc i) (a ∷ []) l u = rw (two-more-above i, two-more i)
held-set (suc i) (a ∷ b ∷ ws) l u = rw (two-more-above i, two-more i) (ap (λ (r : List ℕ). (a % 2 ^ 60 + 2 ^ 60 * b) ∷ r) (held-set i ws l u))
