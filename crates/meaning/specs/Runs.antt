-- Runs: what a description does, step by step (docs/FORMAT.md, "Runs").
-- Assumes nothing.
use Rattle.std.specs.Prelude.{◌≡◌, ◌⊎◌, Bool, true, false, ◌&&◌, List, [], ◌∷◌, ℕ, T}
use Rattle.meaning.specs.Labels.{Label, count, size, empty, single, plus, minus, inside, without, renamed}
use Rattle.meaning.specs.Sets.{◌∈◌}
use Rattle.meaning.specs.Descriptions.{Rule, Operator, block, hide, rename, comm, allow, act, tau, ref, sum, cond, choice, ifelse}
use Rattle.meaning.specs.Descriptions.{seq, merge, lmerge, sync, wrap, Description, names, term_at, body_at}
use Rattle.meaning.specs.Rounds.{target}

-- What is left to do: nothing, a term, a state that a term follows, two states side by side (a merge), a state within an operator.
pub data State : Type 0 where
  ended : State
  term : ℕ → State
  followed : State → ℕ → State
  beside : State → State → State
  within : Operator → State → State

unfoldable pub has_ended : State → Bool
has_ended ended = true
has_ended (term t) = false
has_ended (followed s u) = false
has_ended (beside s r) = has_ended s && has_ended r
has_ended (within o s) = has_ended s

-- Any number of rule applications to disjoint parts of a label: what no rule has taken yet, the results set aside, and the
-- label that comes of both in the end.
pub data Communicates (names : ℕ) (rs : List Rule) : Label → Label → Label → Type 0 where
  enough : (rest aside : Label) → Communicates names rs rest aside (plus rest aside)
  apply : (r : Rule) {rest aside result : Label} → r ∈ rs → T (inside r.left rest)
      → Communicates names rs (minus rest r.left) (plus aside (single names r.right)) result
      → Communicates names rs rest aside result

-- What an operator makes of the label of a step.
abbrev pub Acts : ℕ → Operator → Label → Label → Type 0
Acts names (block ns) a b = (b ≡ a) × ((n : ℕ) → n ∈ ns → count a n ≡ 0)
Acts names (hide ns) a b = b ≡ without ns a
Acts names (rename ps) a b = b ≡ renamed names (target ps) a
Acts names (comm rs) a b = Communicates names rs a [] b
Acts names (allow ls) a b = (b ≡ a) × ((a ∈ ls) ⊎ (size a ≡ 0))

pub data Step (d : Description) : State → Label → State → Type 0 where
  by-act : {t n : ℕ} → term_at d t ≡ act n → Step d (term t) (single (names d) n) ended
  by-tau : {t : ℕ} → term_at d t ≡ tau → Step d (term t) (empty (names d)) ended
  by-ref : {t e : ℕ} {a : Label} {s : State} → term_at d t ≡ ref e → Step d (term (body_at d e)) a s → Step d (term t) a s
  by-sum : {t u : ℕ} {a : Label} {s : State} → term_at d t ≡ sum u → Step d (term u) a s → Step d (term t) a s
  by_cond : {t u : ℕ} {a : Label} {s : State} → term_at d t ≡ cond u → Step d (term u) a s → Step d (term t) a s
  by-choice-left : {t u v : ℕ} {a : Label} {s : State} → term_at d t ≡ choice u v → Step d (term u) a s → Step d (term t) a s
  by-choice-right : {t u v : ℕ} {a : Label} {s : State} → term_at d t ≡ choice u v → Step d (term v) a s → Step d (term t) a s
  by-ifelse-left : {t u v : ℕ} {a : Label} {s : State} → term_at d t ≡ ifelse u v → Step d (term u) a s → Step d (term t) a s
  by-ifelse-right : {t u v : ℕ} {a : Label} {s : State} → term_at d t ≡ ifelse u v → Step d (term v) a s → Step d (term t) a s
  by-seq : {t u v : ℕ} {a : Label} {s : State} → term_at d t ≡ seq u v → Step d (term u) a s → Step d (term t) a (followed s v)
  by-merge : {t u v : ℕ} {a : Label} {s : State} → term_at d t ≡ merge u v → Step d (beside (term u) (term v)) a s → Step d (term t) a s
  by-lmerge : {t u v : ℕ} {a : Label} {s : State} → term_at d t ≡ lmerge u v → Step d (term u) a s → Step d (term t) a (beside s (term v))
  by-sync : {t u v : ℕ} {a b : Label} {s r : State} → term_at d t ≡ sync u v → Step d (term u) a s → Step d (term v) b r
      → Step d (term t) (plus a b) (beside s r)
  by-operator : {t u : ℕ} {o : Operator} {a : Label} {s : State} → term_at d t ≡ wrap o u → Step d (within o (term u)) a s
      → Step d (term t) a s
  before : {u : ℕ} {a : Label} {s r : State} → Step d s a r → Step d (followed s u) a (followed r u)
  after : {u : ℕ} {a : Label} {s r : State} → T (has_ended s) → Step d (term u) a r → Step d (followed s u) a r
  on-left : {a : Label} {s r q : State} → Step d s a r → Step d (beside s q) a (beside r q)
  on-right : {a : Label} {s r q : State} → Step d s a r → Step d (beside q s) a (beside q r)
  on_both : {a b : Label} {s r p q : State} → Step d s a r → Step d p b q → Step d (beside s p) (plus a b) (beside r q)
  inner : {o : Operator} {a b : Label} {s r : State} → Step d s a r → Acts (names d) o a b → Step d (within o s) b (within o r)

-- A finite run and its labels.
pub data Run (d : Description) : State → List Label → State → Type 0 where
  stop : (s : State) → Run d s [] s
  go : {a : Label} {more : List Label} {s r q : State} → Step d s a r → Run d r more q → Run d s (a ∷ more) q

-- A label on some finite run of the description, which starts at the root.
pub record OnRun (d : Description) (a : Label) : Type 0 where
  pub labels : List Label
  pub final : State
  pub run : Run d (term d.root) labels final
  pub met : a ∈ labels
