-- The cut to the order, label by label.
-- Assumes nothing.
use mathlib.Core.Path.{◌≡◌, refl, sym, ap, subst, ◌∙◌}
use mathlib.Core.Bool.{Bool, true, false}
use mathlib.Core.List.{List, [], ◌∷◌, tail}
use Prim.Native.Nat.{ℕ, zero, suc, ◌+◌, ◌*◌, ◌/◌, ◌≤◌, ◌<◌, zero-le, suc-le-suc}
use native.Mathlib.Nat.{le_step}
use native.Mathlib.Numerals.{add-one}
use native.Mathlib.Omega.{arith}
use lib.Seq.{drop-cons}
use borrow.Author.Tests.{le-leb, lt-leb}
use lib.ListN.{length, get_or, drop, set, drop_of_length-le, length-drop}
use Rattle.meaning.specs.Labels.{in_words}
use Rattle.labels.specs.declared.Label.{Label}
use Rattle.labels.specs.Packing.{code, packed}
use Rattle.labels.proofs.Codes.{code_of}
use Rattle.areas.specs.Areas.{put}
use Rattle.areas.proofs.Filling.{FillingLabels, labels-start, labels-step, labels-end}
use Rattle.images.specs.Allowing.{allowed_in}
use Rattle.cutting.specs.Cutting.{allows, cut_labels, cut_into}

cut-one : (all : Bool) (list ws : List ℕ) (w : ℕ) → allows all list w ≡ true → cut_labels all list (w ∷ ws) ≡ w ∷ cut_labels all list ws
unfolding cut_labels
cut-one all list ws w t = rw (t, cut_labels)

cut-none : (all : Bool) (list ws : List ℕ) (w : ℕ) → allows all list w ≡ false → cut_labels all list (w ∷ ws) ≡ cut_labels all list ws
unfolding cut_labels
cut-none all list ws w t = rw (t, cut_labels)

pub cut-taken : (all : Bool) (list l : List ℕ) (i : ℕ) → i < length l → allows all list (get_or l i 0) ≡ true
    → cut_labels all list (drop i l) ≡ get_or l i 0 ∷ cut_labels all list (drop (i + 1) l)
cut-taken all list l i h t =
    rw (add-one i) (ap (cut_labels all list) (drop-cons l i 0 h) ∙ cut-one all list (drop (suc i) l) (get_or l i 0) t)

pub cut_left : (all : Bool) (list l : List ℕ) (i : ℕ) → i < length l → allows all list (get_or l i 0) ≡ false
    → cut_labels all list (drop i l) ≡ cut_labels all list (drop (i + 1) l)
cut_left all list l i h t =
    rw (add-one i) (ap (cut_labels all list) (drop-cons l i 0 h) ∙ cut-none all list (drop (suc i) l) (get_or l i 0) t)

-- The order's test.
pub allows-all : (all : Bool) (list : List ℕ) (w : ℕ) → all ≡ true → true ≡ allows all list w
unfolding allows
allows-all all list w e = rw e

pub allows-listed : (all : Bool) (list : List ℕ) (w : ℕ) → all ≡ false → allowed_in w list ≡ allows all list w
unfolding allows
allows-listed all list w e = rw e

pub cut-shorter : (all : Bool) (list ws : List ℕ) → length (cut_labels all list ws) ≤ length ws
unfolding cut_labels
cut-shorter all list [] = zero-le
cut-shorter all list (w ∷ ws) = kept (allows all list w) (cut-shorter all list ws)
  where
    kept : (b : Bool) → length (cut_labels all list ws) ≤ length ws
        → length {A = ℕ} (elim b as (λ x. List ℕ) [ true ↦ w ∷ cut_labels all list ws | false ↦ cut_labels all list ws ]) ≤ suc (length ws)
    kept true h = suc-le-suc h
    kept false h = le_step h

-- Where there is no room for the whole set.
pub cut_short : (all : Bool) (list ws area : List ℕ) → length area / 2 < length ws
    → (area ≡ put (in_words (cut_into all list ws (length area / 2))) area) × (0 ≡ length (cut_into all list ws (length area / 2)))
unfolding in_words
cut_short all list ws area h = rw (lt-leb (length ws) (length area / 2) h) (refl, refl)

-- What a filter keeps: the first of what is left.
pub left-first : (vs ws : List ℕ) (n w : ℕ) → drop n vs ≡ w ∷ ws → (n < length vs) × (w ≡ get_or vs n 0) × (drop (n + 1) vs ≡ ws)
left-first [] ws zero w e = absurd (let k = ap length e in omega arith)
left-first [] ws (suc n) w e = absurd (let k = ap length e in omega arith)
left-first (v ∷ vs) ws zero w e = (omega arith, sym (ap (λ (l : List ℕ). get_or l 0 0) e), ap tail e)
left-first (v ∷ vs) ws (suc n) w e =
    let x = left-first vs ws n w e in
    (omega (arith, x.0), x.1, rw (add-one (suc n)) (subst (λ (k : ℕ). drop k vs ≡ ws) (add-one n) x.2))

-- How far the cut has come: i labels looked at, n kept.
pub record Cut (all : Bool) (list ws area₀ : List ℕ) (i n : ℕ) (area : List ℕ) : Type 0 where
  pub within : i ≤ length ws
  pub fill : FillingLabels (cut_labels all list ws) area₀ area n
  pub left : drop n (cut_labels all list ws) ≡ cut_labels all list (drop i ws)

module _ {all : Bool} {list ws area₀ : List ℕ} where
  pub cut-start : length ws ≤ length area₀ / 2 → Cut all list ws area₀ 0 0 area₀
  cut-start h =
      record {
        within = zero-le;
        fill = labels-start (cut_labels all list ws) area₀ (let k = cut-shorter all list ws in omega arith);
        left = refl;
      }

  -- a label that is looked at, and whether it is allowed
  module _ {i n : ℕ} {area : List ℕ} (c : Cut all list ws area₀ i n area) (h : i < length ws) {label : Label} (e : label ≡ packed (get_or ws i 0))
      {tested : Bool} (test : tested ≡ allows all list (code label)) where
    by-test : (b : Bool) → tested ≡ b → allows all list (get_or ws i 0) ≡ b
    by-test b t = ap (allows all list) (sym (code_of e)) ∙ sym test ∙ t

    first : tested ≡ true
        → (n < length (cut_labels all list ws)) × (get_or ws i 0 ≡ get_or (cut_labels all list ws) n 0)
        × (drop (n + 1) (cut_labels all list ws) ≡ cut_labels all list (drop (i + 1) ws))
    first t =
        left-first (cut_labels all list ws) (cut_labels all list (drop (i + 1) ws)) n (get_or ws i 0)
        (c.left ∙ cut-taken all list ws i h (by-test true t))

    pub cut-room : tested ≡ true → 2 * n + 1 < length area
    cut-room t = let x = first t in omega (arith, x.0, c.fill.fits, c.fill.same)

    pub cut-keep : tested ≡ true → Cut all list ws area₀ (i + 1) (n + 1) (set (set area (2 * n) label.lower) (2 * n + 1) label.upper)
    cut-keep t =
        let x = first t in
        record {
          within = omega arith;
          fill = labels-step (cut_labels all list ws) area₀ area n label c.fill x.0 (e ∙ ap packed x.1);
          left = x.2;
        }

    pub cut-skip : tested ≡ false → Cut all list ws area₀ (i + 1) n area
    cut-skip t = record { within = omega arith; fill = c.fill; left = c.left ∙ cut_left all list ws i h (by-test false t) }

  pub cut-end : {i n : ℕ} {area : List ℕ} → Cut all list ws area₀ i n area → length ws ≤ i → length ws ≤ length area₀ / 2
      → (area ≡ put (in_words (cut_into all list ws (length area₀ / 2))) area₀) × (n ≡ length (cut_into all list ws (length area₀ / 2)))
  unfolding cut_labels
  cut-end {i} {n} {area} c h fits =
      let none : drop n (cut_labels all list ws) ≡ [] = c.left ∙ ap (cut_labels all list) (drop_of_length-le ws h) in
      let most : length (cut_labels all list ws) ≤ n = omega (arith, ap length none, length-drop n (cut_labels all list ws)) in
      rw (le-leb (length ws) (length area₀ / 2) fits)
      (labels-end (cut_labels all list ws) area₀ area n c.fill most, omega (arith, c.fill.within))
