-- Regrouping: lines that may stand for each other by the laws, and descriptions that differ by such lines (docs/LAWS.md).
-- Assumes nothing.
use Rattle.std.specs.Prelude.{◌≡◌, false, map, ℕ, ◌<◌, set}
use Rattle.meaning.specs.Sets.{at}
use Rattle.meaning.specs.Descriptions.{Operator, Term, act, tau, delta, ref, sum, cond, choice, ifelse, seq}
use Rattle.meaning.specs.Descriptions.{merge, lmerge, sync, wrap, Description, term_count, term_at}
use Rattle.meaning.specs.Legal.{Each}
use Rattle.meaning.specs.Rounds.{are_multi_actions, Shape, leaf, reference, one, either, both, joint, through, shape, round_sets, equation_sets}
use Rattle.meaning.specs.Laws.{InOne, ActionByAction}

-- Which operators spread over which kinds of line: each over those of which one side steps at a time; where both sides may step
-- at once, those that look at the actions one by one. A sync is such a line where its operands are not both multi-actions: what is
-- spread out never is one.
pub data Spreads (d : Description) (o : Operator) (t u : ℕ) : (ℕ → ℕ → Term) → Type 0 where
  over-choice : Spreads d o t u choice
  over-ifelse : Spreads d o t u ifelse
  over-seq : Spreads d o t u seq
  over-merge : ActionByAction o → Spreads d o t u merge
  over-lmerge : ActionByAction o → Spreads d o t u lmerge
  over-sync : ActionByAction o → are_multi_actions d t u ≡ false → Spreads d o t u sync

-- Two lines that may stand for each other beside the lines of a description.
pub data Regroups (d : Description) : Term → Term → Type 0 where
  in_one : {o p q : Operator} {t u : ℕ} → InOne o p q → term_at d t ≡ wrap p u → Regroups d (wrap o t) (wrap q u)
  spread-out : {o : Operator} {two : ℕ → ℕ → Term} {m t u t' u' : ℕ} → Spreads d o t u two → term_at d m ≡ two t u
      → term_at d t' ≡ wrap o t → term_at d u' ≡ wrap o u → Regroups d (wrap o m) (two t' u')

-- The description with another line at a number.
abbrev pub rewritten : Description → ℕ → Term → Description
rewritten d n t = record { words = d.words; terms = set d.terms n t; bodies = d.bodies; root = d.root }

-- A line whose operands have other numbers.
abbrev pub moved : (ℕ → ℕ) → Term → Term
moved place (act a) = act a
moved place tau = tau
moved place delta = delta
moved place (ref e) = ref e
moved place (sum t) = sum (place t)
moved place (cond t) = cond (place t)
moved place (choice t u) = choice (place t) (place u)
moved place (ifelse t u) = ifelse (place t) (place u)
moved place (seq t u) = seq (place t) (place u)
moved place (merge t u) = merge (place t) (place u)
moved place (lmerge t u) = lmerge (place t) (place u)
moved place (sync t u) = sync (place t) (place u)
moved place (wrap o t) = wrap o (place t)

-- The second description has the lines of the first, at other numbers, and maybe lines that the first has not.
pub record Extends (d d' : Description) : Type 0 where
  pub place : ℕ → ℕ
  pub words : d.words ≡ d'.words
  pub lines : (n : ℕ) → n < term_count d → term_at d' (place n) ≡ moved place (term_at d n)
  pub bodies : d'.bodies ≡ map place d.bodies
  pub root : d'.root ≡ place d.root

-- Operands have smaller numbers than the line, and the bodies and the root are lines: so it is in every legal description.
abbrev pub Below : ℕ → Shape → Type 0
Below n (leaf s) = Unit {0}
Below n (reference e) = Unit {0}
Below n (one t) = t < n
Below n (either t u) = (t < n) × (u < n)
Below n (both t u) = (t < n) × (u < n)
Below n (joint t u) = (t < n) × (u < n)
Below n (through f t) = t < n

pub record Placed (d : Description) : Type 0 where
  pub operands : (n : ℕ) → Below n (shape d (term_at d n))
  pub bodies : Each (λ b. b < term_count d) d.bodies
  pub root : d.root < term_count d

-- A description regrouped: in one line, or by lines that are added; and back, and so on.
pub data Regrouped : Description → Description → Type 0 where
  rewrite : {d : Description} (n : ℕ) (t : Term) → Placed d → Placed (rewritten d n t) → n < term_count d → Regroups d (term_at d n) t
      → Regrouped d (rewritten d n t)
  extend : {d d' : Description} → Placed d → Placed d' → Extends d d' → Regrouped d d'
  back : {d d' : Description} → Regrouped d d' → Regrouped d' d
  onward : {d d' d'' : Description} → Regrouped d d' → Regrouped d' d'' → Regrouped d d''

-- What regrouping leaves as it is in every round: the equations' sets, and the root's.
pub record Unchanged (d d' : Description) : Type 0 where
  pub equations : (k : ℕ) → equation_sets d k ≡ equation_sets d' k
  pub root : (k : ℕ) → at (round_sets d k) d.root ≡ at (round_sets d' k) d'.root
