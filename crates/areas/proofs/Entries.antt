-- How the lists of operators stand in words: a name by its number, a label by its number, a pair in one word, a rule as two labels.
-- Assumes nothing.
use mathlib.Core.Path.{◌≡◌, refl, ap₂}
use mathlib.Core.List.{List, [], ◌∷◌, map}
use Prim.Native.Nat.{ℕ, ◌+◌, ◌*◌, ◌/◌, ◌%◌, ◌<◌}
use native.Mathlib.Omega.{arith}
use Rattle.meaning.specs.Labels.{Label, number, single}
use Rattle.meaning.specs.Descriptions.{Pair, Rule}
use Rattle.meaning.specs.Legal.{Each}
use Rattle.areas.specs.Pairs.{pair_word, pairs_in}

abbrev pub label_numbers : List Label → List ℕ
label_numbers ls = map number ls

abbrev pub pair_words : List Pair → List ℕ
pair_words ps = map pair_word ps

-- Pairs are read as they are stored.
pub pairs_in-pair_words : (ps : List Pair) → Each (λ p. p.left < 32) ps → pairs_in (pair_words ps) ≡ ps
pairs_in-pair_words [] h = refl
pairs_in-pair_words (p ∷ ps) h =
    let lo : (p.left + 32 * p.right) % 32 ≡ p.left = omega (arith, h.0) in
    let hi : (p.left + 32 * p.right) / 32 ≡ p.right = omega (arith, h.0) in
    ap₂ {C = List Pair} ◌∷◌ (rw (lo, hi)) (pairs_in-pair_words ps h.1)

-- `label>name` is the label, and then the label of the one action
unfoldable pub rule_labels : ℕ → List Rule → List ℕ
rule_labels names [] = []
rule_labels names (r ∷ rs) = number r.left ∷ number (single names r.right) ∷ rule_labels names rs
