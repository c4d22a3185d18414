-- Where the figure of a refusal stands, and what one more there makes of the figures.
-- Assumes nothing.
use mathlib.Core.Path.{◌≡◌, refl, ap, ap₂, ◌∙◌}
use mathlib.Core.Bool.{Bool, true, false, ◌&&◌, ◌||◌, not, true≢false}
use mathlib.Core.List.{List, [], ◌∷◌, map}
use Prim.Native.Nat.{ℕ, suc, ◌+◌, ◌≤◌, ◌<◌}
use native.Mathlib.Nat.{add-zero, zero-add}
use native.Mathlib.Omega.{arith}
use borrow.Author.Tests.{eq-eqb, ne_eqb, eqb-true, ltb-true, ltb-false, not-true}
use lib.Dec.{ltb, eqb, leb-zero, leb-suc-suc}
use lib.ListN.{length, get_or, set}
use Rattle.std.specs.Prelude.{Option, Some, None, MatchOption, is_some}
use Rattle.meaning.specs.Labels.{plus, size}
use Rattle.meaning.specs.Rounds.{pick}
use Rattle.meaning.proofs.Bags.{plus_none}
use Rattle.meaning.proofs.Tests.{or-false→, and-true→}
use Rattle.tally.specs.declared.Verdict.{Verdict}
use Rattle.tally.specs.Figures.{one, saying, refusal_numbers}
use Rattle.tally.specs.Additions.{among}
use Rattle.tally.specs.declared.Tally.{Tally}
use Rattle.tally.specs.Steps.{position, place_or_end, place_of, figure_of}

-- A number has a place before the end exactly if it is among them.
pub among-by-place : (n : ℕ) (ms : List ℕ) → ltb (position n ms) (length ms) ≡ among n ms
unfolding position among
among-by-place n [] = refl
among-by-place n (m ∷ ms) = step (eqb n m) (among-by-place n ms)
  where
    step : (b : Bool) → ltb (position n ms) (length ms) ≡ among n ms
        → ltb (elim b [ true ↦ 0 | false ↦ suc (position n ms) ]) (suc (length ms)) ≡ (b || among n ms)
    step true so_far = leb-suc-suc 0 (length ms) ∙ leb-zero (length ms)
    step false so_far = leb-suc-suc (suc (position n ms)) (length ms) ∙ so_far

pub place-behind : (n : ℕ) (ms : List ℕ) → among n ms ≡ false → position n ms ≡ length ms
unfolding position among
place-behind n [] none = refl
place-behind n (m ∷ ms) none = step (eqb n m) none (place-behind n ms)
  where
    step : (b : Bool) → (b || among n ms) ≡ false → (among n ms ≡ false → position n ms ≡ length ms)
        → elim b [ true ↦ 0 | false ↦ suc (position n ms) ] ≡ suc (length ms)
    step true none so_far = absurd (true≢false none)
    step false none so_far = ap suc (so_far none)

-- Each number once.
unfoldable pub distinct : List ℕ → Bool
distinct [] = true
distinct (m ∷ ms) = not (among m ms) && distinct ms

-- What one verdict adds to the figure of a number.
pub saying-one : (n : ℕ) (v : Verdict) → saying n (v ∷ []) ≡ one (eqb v.reason n)
unfolding saying
saying-one n v = add-zero (one (eqb v.reason n))

cons : {x y : ℕ} {s t : List ℕ} → x ≡ y → s ≡ t → (x ∷ s) ≡ (y ∷ t)
cons p q = ap₂ {C = List ℕ} ◌∷◌ p q

-- A verdict adds nothing to the figures of other numbers, and one to that of its own.
nothing-added : (v : Verdict) (ms fs : List ℕ) → length fs ≡ length ms → among v.reason ms ≡ false → plus fs (map (λ n. saying n (v ∷ [])) ms) ≡ fs
unfolding plus among
nothing-added v [] fs same none = plus_none fs
nothing-added v (m ∷ ms) [] same none = absurd (omega (arith, same))
nothing-added v (m ∷ ms) (f ∷ fs) same none =
    let apart = or-false→ (eqb v.reason m) (among v.reason ms) none in
    cons (ap (λ (n : ℕ). f + n) (saying-one m v ∙ ap one apart.0) ∙ add-zero f) (nothing-added v ms fs (omega (arith, same)) apart.1)

added-by-step : (v : Verdict) (m f : ℕ) (fs rest : List ℕ) (p : ℕ) (b : Bool) → eqb v.reason m ≡ b
    → (b ≡ true → rest ≡ fs) → rest ≡ set fs p (get_or fs p 0 + 1)
    → ((f + saying m (v ∷ [])) ∷ rest)
    ≡ set (f ∷ fs) (elim b [ true ↦ 0 | false ↦ suc p ]) (get_or (f ∷ fs) (elim b [ true ↦ 0 | false ↦ suc p ]) 0 + 1)
added-by-step v m f fs rest p true e here there = cons (ap (λ (n : ℕ). f + n) (saying-one m v ∙ ap one e)) (here refl)
added-by-step v m f fs rest p false e here there = cons (ap (λ (n : ℕ). f + n) (saying-one m v ∙ ap one e) ∙ add-zero f) there

not-elsewhere : (v : Verdict) (m : ℕ) (ms : List ℕ) → eqb v.reason m ≡ true → not (among m ms) ≡ true → among v.reason ms ≡ false
not-elsewhere v m ms is alone = ap (λ (n : ℕ). among n ms) (eqb-true v.reason m is) ∙ not-true (among m ms) alone

pub one-added : (v : Verdict) (ms fs : List ℕ) → length fs ≡ length ms → distinct ms ≡ true
    → plus fs (map (λ n. saying n (v ∷ [])) ms) ≡ set fs (position v.reason ms) (get_or fs (position v.reason ms) 0 + 1)
unfolding plus position distinct
one-added v [] [] same once = refl
one-added v [] (f ∷ fs) same once = absurd (omega (arith, same))
one-added v (m ∷ ms) [] same once = absurd (omega (arith, same))
one-added v (m ∷ ms) (f ∷ fs) same once =
    let alone = and-true→ (not (among m ms)) (distinct ms) once in
    added-by-step v m f fs _ (position v.reason ms) (eqb v.reason m) refl
    (λ is. nothing-added v ms fs (omega (arith, same)) (not-elsewhere v m ms is alone.0))
    (one-added v ms fs (omega (arith, same)) alone.1)

-- So of all figures together one verdict adds one, if its number is among them.
among-step : (b c : Bool) → (b ≡ true → c ≡ false) → one b + one c ≡ one (b || c)
among-step true c apart = ap (λ (d : Bool). 1 + one d) (apart refl)
among-step false c apart = zero-add (one c)

pub one-among : (v : Verdict) (ms : List ℕ) → distinct ms ≡ true → size (map (λ n. saying n (v ∷ [])) ms) ≡ one (among v.reason ms)
unfolding size distinct among
one-among v [] once = refl
one-among v (m ∷ ms) once =
    let alone = and-true→ (not (among m ms)) (distinct ms) once in
    ap₂ {C = ℕ} ◌+◌ (saying-one m v) (one-among v ms alone.1)
    ∙ among-step (eqb v.reason m) (among v.reason ms) (λ is. not-elsewhere v m ms is alone.0)

-- The figure that counts the verdicts with a number.
pub figure-answered : (t : Tally) {n : ℕ} → n ≡ 0 → t.answered ≡ figure_of t n
unfolding figure_of
figure-answered t {n} e = rw (eq-eqb n 0 e, figure_of) refl

pub figure-elsewhere : (t : Tally) {n p : ℕ} → (n ≡ 0 → ⊥) → p ≡ place_or_end n → get_or t.refusals p 0 ≡ figure_of t n
unfolding figure_of
figure-elsewhere t {n} {p} other e = rw (ne_eqb n 0 other, figure_of) (ap (λ (q : ℕ). get_or t.refusals q 0) e)

-- The place of a number that a refusal has, and that of one that none has.
module _ (n : ℕ) where
  placed : (b : Bool) (r : Option ℕ) → ltb (place_or_end n) 7 ≡ b → r ≡ pick b (Some (place_or_end n)) None
      → MatchOption r (7 ≤ place_or_end n) (λ p. (p ≡ place_or_end n) × (p < 7))
  placed true r inside e = rw e (refl, ltb-true (place_or_end n) 7 inside)
  placed false r outside e = rw e (ltb-false (place_or_end n) 7 outside)

  pub by_place : (r : Option ℕ) → r ≡ place_of n → MatchOption r (7 ≤ place_or_end n) (λ p. (p ≡ place_or_end n) × (p < 7))
  by_place r e = placed (ltb (place_or_end n) 7) r refl e

  some-picked : (b : Bool) (p : ℕ) → is_some (pick b (Some p) None) ≡ b
  some-picked true p = refl
  some-picked false p = refl

  pub some-placed : (r : Option ℕ) → r ≡ place_of n → is_some r ≡ among n refusal_numbers
  some-placed r e = ap is_some e ∙ some-picked (ltb (place_or_end n) 7) (place_or_end n) ∙ among-by-place n refusal_numbers
