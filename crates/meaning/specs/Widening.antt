-- Widening (docs/FORMAT.md, "Widening").
-- Assumes nothing.
use Rattle.std.specs.Prelude.{◌≡◌, List, [], ◌∷◌, ℕ, ◌≤◌, length}
use Rattle.meaning.specs.Labels.{Label, size}
use Rattle.meaning.specs.Sets.{◌∈◌}
use Rattle.meaning.specs.Descriptions.{block, allow, Term, delta, wrap, Order, Description, names}
use Rattle.meaning.specs.Answers.{Allows}

-- A term line is the same, save that an allow list may gain labels, a block list lose names, and a `delta` become any line.
pub data WiderTerm : Term → Term → Type 0 where
  same : (t : Term) → WiderTerm t t
  gained : {ls more : List Label} (t : ℕ) → ((a : Label) → a ∈ ls → a ∈ more) → WiderTerm (wrap (allow ls) t) (wrap (allow more) t)
  lost : {ns fewer : List ℕ} (t : ℕ) → ((n : ℕ) → n ∈ fewer → n ∈ ns) → WiderTerm (wrap (block ns) t) (wrap (block fewer) t)
  opened : (t : Term) → WiderTerm delta t

abbrev pub WiderTerms : List Term → List Term → Type 0
WiderTerms [] [] = Unit {0}
WiderTerms [] (u ∷ us) = ⊥
WiderTerms (t ∷ ts) [] = ⊥
WiderTerms (t ∷ ts) (u ∷ us) = WiderTerm t u × WiderTerms ts us

-- A label where it is listed: a count for each name, and at most 31 actions.
abbrev pub Listable : ℕ → Label → Type 0
Listable names a = (length a ≡ names) × (size a ≤ 31)

-- The second description and order widen the first. (That a line is legal at its number is said by both being legal.)
pub record Widens (d : Description) (o : Order) (d' : Description) (o' : Order) : Type 0 where
  pub words : d.words ≡ d'.words
  pub terms : WiderTerms d.terms d'.terms
  pub bodies : d.bodies ≡ d'.bodies
  pub root : d.root ≡ d'.root
  pub orders : (a : Label) → Listable (names d) a → Allows o a → Allows o' a
