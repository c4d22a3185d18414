-- Rounds and answers by the shapes of the terms alone: descriptions that differ in nothing else have the same sets in every round,
-- and the same answer. And by how one round follows another, for descriptions in which that is the same for other reasons.
-- Assumes nothing.
use mathlib.Core.Path.{◌≡◌, refl, sym, ap, fun_ext, ◌∙◌}
use mathlib.Core.Bool.{true, false}
use mathlib.Core.List.{List, [], ◌∷◌, ◌++◌, map}
use Prim.Native.Nat.{ℕ, zero, suc}
use Rattle.meaning.specs.Labels.{Label}
use Rattle.meaning.specs.Sets.{at, ascending}
use Rattle.meaning.specs.Descriptions.{Order, Description, term_count, term_at}
use Rattle.meaning.specs.Rounds.{Shape, shape, made, worked, body_sets, next, round_sets}
use Rattle.meaning.specs.Limits.{over}
use Rattle.meaning.specs.Answers.{Outcome, too_large, listed, cut, same_sets, answer_from, answer}

-- How one round follows another; and what is left of a description for its rounds: the bodies and the root.
abbrev pub Turn : Type 0
Turn = List (List Label) → List (List Label)

unfoldable pub rounds_by : Turn → ℕ → List (List Label)
rounds_by turn zero = []
rounds_by turn (suc k) = turn (rounds_by turn k)

-- a round of the answer, before the rounds that follow
abbrev after : List ℕ → ℕ → Order → ℕ → List (List Label) → List (List Label) → Outcome → Outcome
after bodies root o k before sets later =
    elim (over sets) [
      | true ↦ too_large
      | false ↦ elim (same_sets (map (at sets) bodies) (map (at before) bodies)) [ true ↦ listed (suc k) (cut o (at sets root)) | false ↦ later ]
    ]

unfoldable pub answer_from_by : Turn → List ℕ → ℕ → ℕ → Order → ℕ → List (List Label) → Outcome
answer_from_by turn bodies root zero o k before = too_large
answer_from_by turn bodies root (suc more) o k before =
    after bodies root o k before (turn before) (answer_from_by turn bodies root more o (suc k) (turn before))

abbrev pub answer_by : Turn → List ℕ → ℕ → Order → Outcome
answer_by turn bodies root o = answer_from_by turn bodies root 2049 o 0 []

-- The rounds and the answer of a description are those.
rounds-by : (d : Description) (k : ℕ) → round_sets d k ≡ rounds_by (next d) k
unfolding round_sets rounds_by
rounds-by d zero = refl
rounds-by d (suc k) = ap (next d) (rounds-by d k)

answer-from-by : (d : Description) (more : ℕ) (o : Order) (k : ℕ) (before : List (List Label))
    → answer_from more d o k before ≡ answer_from_by (next d) d.bodies d.root more o k before
unfolding answer_from answer_from_by
answer-from-by d zero o k before = refl
answer-from-by d (suc more) o k before =
    ap (after d.bodies d.root o k before (next d before)) (answer-from-by d more o (suc k) (next d before))

answer-by : (d : Description) (o : Order) → answer d o ≡ answer_by (next d) d.bodies d.root o
unfolding answer round_sets
answer-by d o = answer-from-by d 2049 o 0 []

-- So what follows each round alike has the same rounds; with the same bodies and root, the same answer.
module _ (d : Description) (turn : Turn) (same : (sets : List (List Label)) → turn sets ≡ next d sets) where
  pub turns-rounds : (k : ℕ) → rounds_by turn k ≡ round_sets d k
  turns-rounds k = ap (λ (t : Turn). rounds_by t k) (fun_ext same) ∙ sym (rounds-by d k)

  pub turns-answer : (o : Order) → answer_by turn d.bodies d.root o ≡ answer d o
  turns-answer o = ap (λ (t : Turn). answer_by t d.bodies d.root o) (fun_ext same) ∙ sym (answer-by d o)

module _ (d d' : Description) (bodies : d.bodies ≡ d'.bodies) (root : d.root ≡ d'.root)
    (same : (sets : List (List Label)) → next d sets ≡ next d' sets) where
  pub same-rounds : (k : ℕ) → round_sets d k ≡ round_sets d' k
  same-rounds k = rounds-by d k ∙ turns-rounds d' (next d) same k

  pub same_answer : (o : Order) → answer d o ≡ answer d' o
  same_answer o =
      answer-by d o
      ∙ ap (λ (bs : List ℕ). answer_by (next d) bs d.root o) bodies
      ∙ ap (λ (n : ℕ). answer_by (next d) d'.bodies n o) root
      ∙ turns-answer d' (next d) same o

-- The sets of the first terms by their shapes.
unfoldable pub worked_by : (ℕ → Shape) → List (List Label) → ℕ → List (List Label)
worked_by shapes eqs zero = []
worked_by shapes eqs (suc n) = let sets = worked_by shapes eqs n in sets ++ (ascending (made eqs sets (shapes n)) ∷ [])

abbrev pub next_by : (ℕ → Shape) → ℕ → List ℕ → Turn
next_by shapes count bodies sets = worked_by shapes (map (at sets) bodies) count

worked-by : (d : Description) (eqs : List (List Label)) (n : ℕ) → worked d eqs n ≡ worked_by (λ i. shape d (term_at d i)) eqs n
unfolding worked worked_by
worked-by d eqs zero = refl
worked-by d eqs (suc n) =
    ap (λ (sets : List (List Label)). sets ++ (ascending (made eqs sets (shape d (term_at d n))) ∷ [])) (worked-by d eqs n)

-- The same shapes follow each round alike.
pub shapes-next : (d : Description) (shapes : ℕ → Shape) → ((n : ℕ) → shapes n ≡ shape d (term_at d n)) → (sets : List (List Label))
    → next_by shapes (term_count d) d.bodies sets ≡ next d sets
unfolding next
shapes-next d shapes same sets =
    ap (λ (s : ℕ → Shape). worked_by s (body_sets d sets) (term_count d)) (fun_ext same) ∙ sym (worked-by d (body_sets d sets) (term_count d))

pub same-shapes : (d d' : Description) → d.bodies ≡ d'.bodies → term_count d ≡ term_count d'
    → ((n : ℕ) → shape d (term_at d n) ≡ shape d' (term_at d' n)) → (sets : List (List Label)) → next d sets ≡ next d' sets
unfolding next
same-shapes d d' bodies count same sets =
    worked-by d (body_sets d sets) (term_count d)
    ∙ ap (λ (bs : List ℕ). next_by (λ i. shape d (term_at d i)) (term_count d) bs sets) bodies
    ∙ ap (λ (n : ℕ). next_by (λ i. shape d (term_at d i)) n d'.bodies sets) count
    ∙ shapes-next d' (λ i. shape d (term_at d i)) same sets
