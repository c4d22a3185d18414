-- The test of an exact text is the definition, and what it says of the texts of examples/ that docs/EXACT.md speaks of.
-- Assumes nothing.
use mathlib.Core.Path.{◌≡◌, refl, ap, sym, subst, ◌∙◌}
use mathlib.Core.Logic.{◌↔◌}
use mathlib.Core.Bool.{Bool, true, false}
use mathlib.Core.List.{List}
use lib.Dec.{T}
use Rattle.meaning.specs.Bytes.{Text}
use Rattle.meaning.specs.Exact.{are_exact_terms}
use Rattle.meaning.specs.Sets.{◌∈◌}
use Rattle.meaning.specs.Legal.{Each}
use Rattle.meaning.proofs.Members.{each_of}
use Rattle.meaning.proofs.ExactKinds.{exact-tested}
use Rattle.grammar.specs.Reading.{Reading, read, overlong, bad_line, read_text}
use Rattle.grammar.specs.Exact.{ExactText, is_exact_reading, is_exact_text}
use Rattle.grammar.proofs.Texts.{Case, unseen_texts, exact_texts, unseen-texts, exact-texts}

-- By what a text is read as.
read→exact : (text : Text) (r : Reading) → read_text text ≡ r → T (is_exact_reading r) → ExactText text
read→exact text (read d o) e t = record { given = d; order = o; reads = e; kinds = (exact-tested d).0 t }
read→exact text overlong e t = absurd t
read→exact text (bad_line f line) e t = absurd t

pub exact-text-tested : (text : Text) → T (is_exact_text text) ↔ ExactText text
unfolding is_exact_text
exact-text-tested text = (
  read→exact text (read_text text) refl,
  λ x. subst (λ (r : Reading). T (is_exact_reading r)) (sym x.reads) ((exact-tested x.given).1 x.kinds),
)

-- Of a text whose reading is known the test is computed.
tested : (c : Case) {b : Bool} → read_text c.given ≡ c.reading → is_exact_reading c.reading ≡ b → is_exact_text c.given ≡ b
unfolding is_exact_text
tested c e t = ap is_exact_reading e ∙ t

abbrev Tested : Bool → List Case → Type 0
Tested b = Each (λ c. is_exact_reading c.reading ≡ b)

computed : Tested true exact_texts × Tested false unseen_texts
unfolding are_exact_terms
computed = ((refl, (refl, tt)), (refl, (refl, (refl, (refl, (refl, (refl, tt)))))))

pub exact-examples : (c : Case) → c ∈ exact_texts → is_exact_text c.given ≡ true
exact-examples c m = tested c (exact-texts c m) (each_of (λ x. is_exact_reading x.reading ≡ true) exact_texts computed.0 c m)

pub unseen-examples : (c : Case) → c ∈ unseen_texts → is_exact_text c.given ≡ false
unseen-examples c m = tested c (unseen-texts c m) (each_of (λ x. is_exact_reading x.reading ≡ false) unseen_texts computed.1 c m)
