-- The sets of all terms, round by round (docs/FORMAT.md, "The terms").
-- Assumes nothing.
use Rattle.std.specs.Prelude.{◌≡◌, Bool, true, false, ◌&&◌, ◌||◌, ◌≢◌, ℕ, zero, suc, pred, ◌≤◌, ◌<◌, eqb}
use mathlib.Core.List.{List, [], ◌∷◌, ◌++◌, map, flat_map}
use Rattle.meaning.specs.Labels.{Label, size, empty, single, is_tau, plus, minus, inside, clear, without, renamed}
use Rattle.meaning.specs.Sets.{◌∈◌, at, member, ascending, spread, keep, turn, product}
use Rattle.meaning.specs.Descriptions.{Pair, Rule, Operator, block, hide, rename, comm, allow, Term, act, tau, delta, ref, sum, cond, choice}
use Rattle.meaning.specs.Descriptions.{ifelse, seq, merge, lmerge, sync, wrap, Description, names, term_count, term_at}

-- one of two, by a test
abbrev pub pick : {A : Type 0} → Bool → A → A → A
pick true a b = a
pick false a b = b

-- rename: where a name goes. A name that no pair lists stays.
unfoldable pub target : List Pair → ℕ → ℕ
target [] n = n
target (p ∷ ps) n = pick (eqb n p.left) p.right (target ps n)

-- allow: the listed labels, and tau.
unfoldable pub allowed : List Label → Label → Bool
allowed ls a = is_tau a || member a ls

-- comm: the rules whose left side lies inside a label; and any number of rule applications to disjoint parts of it, none
-- included. `rest` is what no rule has taken yet, `aside` the results. No rule takes a result: a finished communication stays
-- finished.
abbrev pub fitting : Label → List Rule → List Rule
fitting rest = flat_map (λ r. pick (inside r.left rest) (r ∷ []) [])

unfoldable pub communicated : ℕ → ℕ → List Rule → Label → Label → List Label
communicated zero names rs rest aside = plus rest aside ∷ []
communicated (suc more) names rs rest aside =
    plus rest aside
    ∷ flat_map (λ r. communicated more names rs (minus rest r.left) (plus aside (single names r.right))) (fitting rest rs)

-- What an operator makes of one label. Every application of a rule takes at least two actions of the label, so that no label
-- allows more applications than it has actions.
abbrev pub image : ℕ → Operator → Label → List Label
image names (block ns) = keep (clear ns)
image names (hide ns) = turn (without ns)
image names (rename ps) = turn (renamed names (target ps))
image names (comm rs) = λ a. communicated (size a) names rs a []
image names (allow ls) = keep (allowed ls)

-- Built of act, tau, delta and sync only, through every sync in it, so that it steps at most once. Operands have smaller numbers, so
-- that the syncs in a term go no deeper than its number.
abbrev pub of_actions : (ℕ → Bool) → Term → Bool
of_actions operand (act a) = true
of_actions operand tau = true
of_actions operand delta = true
of_actions operand (sync t u) = operand t && operand u
of_actions operand (ref e) = false
of_actions operand (sum t) = false
of_actions operand (cond t) = false
of_actions operand (choice t u) = false
of_actions operand (ifelse t u) = false
of_actions operand (seq t u) = false
of_actions operand (merge t u) = false
of_actions operand (lmerge t u) = false
of_actions operand (wrap o t) = false

unfoldable pub actions_only : ℕ → Description → ℕ → Bool
actions_only zero d t = false
actions_only (suc deep) d t = of_actions (actions_only deep d) (term_at d t)

abbrev pub is_multi_action : Description → ℕ → Bool
is_multi_action d t = actions_only (suc t) d t

abbrev pub are_multi_actions : Description → ℕ → ℕ → Bool
are_multi_actions d t u = is_multi_action d t && is_multi_action d u

-- The 17 kinds take their labels in seven ways.
pub data Shape : Type 0 where
  leaf : List Label → Shape
  reference one : ℕ → Shape
  either both joint : ℕ → ℕ → Shape
  through : (Label → List Label) → ℕ → Shape

-- sync: both operands' sets and their product, because after the joint first step the two sides run on as a merge; where both are
-- multi-actions, the product alone.
abbrev pub sync_shape : (multi : Bool) → ℕ → ℕ → Shape
sync_shape true t u = joint t u
sync_shape false t u = both t u

abbrev pub shape : Description → Term → Shape
shape d (act a) = leaf (single (names d) a ∷ [])
shape d tau = leaf (empty (names d) ∷ [])
shape d delta = leaf []
shape d (ref e) = reference e
shape d (sum t) = one t
shape d (cond t) = one t
shape d (choice t u) = either t u
shape d (ifelse t u) = either t u
shape d (seq t u) = either t u
shape d (merge t u) = both t u
shape d (lmerge t u) = both t u
shape d (sync t u) = sync_shape (are_multi_actions d t u) t u
shape d (wrap o t) = through (image (names d) o) t

abbrev pub made : List (List Label) → List (List Label) → Shape → List Label
made eqs sets (leaf s) = s
made eqs sets (reference e) = at eqs e
made eqs sets (one t) = at sets t
made eqs sets (either t u) = at sets t ++ at sets u
made eqs sets (both t u) = at sets t ++ at sets u ++ product (at sets t) (at sets u)
made eqs sets (joint t u) = product (at sets t) (at sets u)
made eqs sets (through f t) = spread f (at sets t)

-- The sets of the first terms, worked out one after the other from the equations' sets.
unfoldable pub worked : Description → List (List Label) → ℕ → List (List Label)
worked d eqs zero = []
worked d eqs (suc n) = let sets = worked d eqs n in sets ++ (ascending (made eqs sets (shape d (term_at d n))) ∷ [])

-- Round 0 gives every equation the empty set; round k+1 works all terms out from the equation sets of round k. The set of
-- an equation is that of its body.
abbrev pub body_sets : Description → List (List Label) → List (List Label)
body_sets d sets = map (at sets) d.bodies

unfoldable pub next : Description → List (List Label) → List (List Label)
next d sets = worked d (body_sets d sets) (term_count d)

unfoldable pub round_sets : Description → ℕ → List (List Label)
round_sets d zero = []
round_sets d (suc k) = next d (round_sets d k)

abbrev pub equation_sets : Description → ℕ → List (List Label)
equation_sets d k = body_sets d (round_sets d k)

-- The set of a term is the union over all rounds.
pub record InSet (d : Description) (t : ℕ) (a : Label) : Type 0 where
  pub round : ℕ
  pub there : a ∈ at (round_sets d round) t

-- The reported round count: the smallest k, at least 1, whose equation sets equal those of round k-1.
pub record Rounds (d : Description) (k : ℕ) : Type 0 where
  pub at_least : 1 ≤ k
  pub stable : equation_sets d k ≡ equation_sets d (pred k)
  pub smallest : (j : ℕ) → 1 ≤ j → j < k → equation_sets d j ≢ equation_sets d (pred j)
