-- Words after a set was laid in them: what stands beside it is as it was. Labels are copied with their words.
-- Assumes nothing.
use mathlib.Core.Path.{◌≡◌, refl, sym, ap, ◌∙◌}
use mathlib.Core.Logic.{◌⊎◌, inl, inr}
use mathlib.Core.List.{List, ◌++◌}
use Prim.Native.Nat.{ℕ, ◌+◌, ◌-◌, ◌*◌, ◌≤◌}
use native.Mathlib.Omega.{arith}
use lib.ListN.{length, take, drop, length-append, length-take}
use lib.Seq.{drop-drop, drop_at, paste}
use Rattle.areas.specs.Rows.{held}
use Rattle.areas.proofs.Held.{length-held, held-take, held-drop, held-append}
use Rattle.parts.specs.declared.Part.{Part}
use Rattle.parts.specs.Parts.{part, set_at, laid}
use Rattle.parts.proofs.LaidSets.{length-set_at, take-laid, set_at-laid}
use Rattle.extents.specs.Extents.{words_in}
use Rattle.extents.proofs.Rows.{words-grown, words-cut}

module _ (at : ℕ) (s ls : List ℕ) (fits : at + length s ≤ length ls) where
  -- what stands behind it
  laid-behind : (m : ℕ) → at + length s ≤ m → drop m (laid at s ls) ≡ drop m ls
  unfolding laid
  laid-behind m h =
      let n = at + length s in
      let e : n + (m - n) ≡ m = omega arith in
      let front : length (take at ls ++ s) ≡ n = simp (length-append, length-take) (omega arith) in
      ap (λ (k : ℕ). drop k (laid at s ls)) (sym e) ∙ sym (drop-drop (m - n) n (laid at s ls))
      ∙ ap (drop (m - n)) (drop_at (take at ls ++ s) (drop n ls) n front) ∙ drop-drop (m - n) n ls ∙ ap (λ (k : ℕ). drop k ls) e

  -- A part that stands before it or behind it, and its own part.
  pub words-beside : (p : Part) → (p.to ≤ at) ⊎ (at + length s ≤ p.from) → words_in p (laid at s ls) ≡ words_in p ls
  words-beside p (inl h) = words-grown p ls (laid at s ls) (sym (take-laid at s ls (omega arith))) h
  words-beside p (inr h) =
      sym (words-cut p.from p.to p (laid at s ls) refl refl) ∙ ap (take (p.to - p.from)) (laid-behind p.from h)
      ∙ words-cut p.from p.to p ls refl refl

  pub words-laid : (to : ℕ) → to ≡ at + length s → part at to (laid at s ls) ≡ s
  words-laid to e =
      let n : to - at ≡ length s = omega arith in
      let p : Part = record { from = at; to = to } in
      sym (words-cut at to p (laid at s ls) refl refl) ∙ ap (λ (k : ℕ). take k (drop at (laid at s ls))) n ∙ set_at-laid at s ls (omega arith)

-- What is laid by words is laid by labels.
held-laid : (at n : ℕ) (s ws : List ℕ) → length s ≡ 2 * n → 2 * at ≤ length ws → held (laid (2 * at) s ws) ≡ laid at (held s) (held ws)
unfolding laid
held-laid at n s ws e h =
    let front : length (take (2 * at) ws) ≡ 2 * at = simp length-take (omega arith) in
    let both : length (take (2 * at) ws ++ s) ≡ 2 * (at + n) = simp (length-append, length-take) (omega arith) in
    let end : 2 * at + length s ≡ 2 * (at + n) = omega arith in
    let labels : length (held s) ≡ n = omega (arith, length-held s) in
    rw (
      end,
      held-append (at + n) (take (2 * at) ws ++ s) (drop (2 * (at + n)) ws) both,
      held-append at (take (2 * at) ws) s front,
      held-take at ws,
      held-drop (at + n) ws,
      labels,
    )

-- Labels are copied with their words.
pub carried : (from to count n : ℕ) (ws : List ℕ) {now : List ℕ} → now ≡ paste ws (2 * to) (drop (2 * from) ws) n → n ≡ 2 * count
    → from + count ≤ length (held ws) → to + count ≤ length (held ws)
    → held now ≡ laid to (set_at from count (held ws)) (held ws)
unfolding laid
carried from to count n ws w e h k =
    let s = set_at (2 * from) (2 * count) ws in
    let long : length s ≡ 2 * count = length-set_at (2 * from) (2 * count) ws ∙ omega (arith, length-held ws) in
    let words : paste ws (2 * to) (drop (2 * from) ws) (2 * count) ≡ laid (2 * to) s ws =
    ap (λ (m : ℕ). take (2 * to) ws ++ s ++ drop (2 * to + m) ws) (sym long) in
    let labels : held s ≡ set_at from count (held ws) = held-take count (drop (2 * from) ws) ∙ ap (take count) (held-drop from ws) in
    ap held (w ∙ rw e words) ∙ held-laid to count s ws long (omega (arith, length-held ws))
    ∙ ap (λ (l : List ℕ). laid to l (held ws)) labels
