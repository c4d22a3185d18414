-- The figures of two lists, one behind the other, are the figures of both together.
-- Assumes nothing.
use mathlib.Core.Path.{◌≡◌, refl, sym, ap, ap₂, ◌∙◌}
use mathlib.Core.List.{List, [], ◌∷◌, ◌++◌, map}
use Prim.Native.Nat.{ℕ, ◌+◌, max}
use native.Mathlib.Nat.{add_assoc, zero-add, zero-max, le-max_left, le-max_right, max-le, le_trans}
use native.Mathlib.Omega.{arith}
use lib.Dec.{eqb}
use lib.ListN.{length-append}
use Rattle.meaning.specs.Labels.{plus}
use Rattle.tally.specs.declared.Verdict.{Verdict}
use Rattle.tally.specs.Figures.{one, saying, all_labels, most_rounds, refusal_numbers, figures_of}
use Rattle.tally.specs.Additions.{together}

saying-append : (n : ℕ) (vs ws : List Verdict) → saying n (vs ++ ws) ≡ saying n vs + saying n ws
unfolding saying
saying-append n [] ws = sym (zero-add (saying n ws))
saying-append n (v ∷ vs) ws =
    ap (λ (m : ℕ). one (eqb v.reason n) + m) (saying-append n vs ws) ∙ sym (add_assoc (one (eqb v.reason n)) (saying n vs) (saying n ws))

labels_append : (vs ws : List Verdict) → all_labels (vs ++ ws) ≡ all_labels vs + all_labels ws
unfolding all_labels
labels_append [] ws = sym (zero-add (all_labels ws))
labels_append (v ∷ vs) ws = ap (λ (m : ℕ). v.labels + m) (labels_append vs ws) ∙ sym (add_assoc v.labels (all_labels vs) (all_labels ws))

max_assoc : (a b c : ℕ) → max (max a b) c ≡ max a (max b c)
max_assoc a b c =
    let to = max-le (max-le (le-max_left a (max b c)) (le_trans (le-max_left b c) (le-max_right a (max b c))))
    (le_trans (le-max_right b c) (le-max_right a (max b c))) in
    let fro = max-le (le_trans (le-max_left a b) (le-max_left (max a b) c))
    (max-le (le_trans (le-max_right a b) (le-max_left (max a b) c)) (le-max_right (max a b) c)) in
    omega (arith, to, fro)

rounds-append : (vs ws : List Verdict) → most_rounds (vs ++ ws) ≡ max (most_rounds vs) (most_rounds ws)
unfolding most_rounds
rounds-append [] ws = sym (zero-max (most_rounds ws))
rounds-append (v ∷ vs) ws = ap (λ (m : ℕ). max v.rounds m) (rounds-append vs ws) ∙ sym (max_assoc v.rounds (most_rounds vs) (most_rounds ws))

refusals-append : (ns : List ℕ) (vs ws : List Verdict)
    → map (λ n. saying n (vs ++ ws)) ns ≡ plus (map (λ n. saying n vs) ns) (map (λ n. saying n ws) ns)
unfolding plus
refusals-append [] vs ws = refl
refusals-append (n ∷ ns) vs ws = ap₂ {C = List ℕ} ◌∷◌ (saying-append n vs ws) (refusals-append ns vs ws)

pub figures-append : (vs ws : List Verdict) → figures_of (vs ++ ws) ≡ together (figures_of vs) (figures_of ws)
figures-append vs ws =
    λ i.
    record {
      descriptions = length-append vs ws i;
      answered = saying-append 0 vs ws i;
      refusals = refusals-append refusal_numbers vs ws i;
      labels = labels_append vs ws i;
      rounds = rounds-append vs ws i;
    }
