-- Which line of a text has no right form, and at which column: by the lines that are due there, and not by how they are read.
-- Assumes nothing.
use Rattle.std.specs.Prelude.{◌≡◌, Bool, true, false, ◌∷◌, ℕ, zero, suc, length}
use Rattle.meaning.specs.Bytes.{Text, ascii}
use Rattle.grammar.specs.Text.{past, Placed}
use Rattle.grammar.specs.Forms.{count_line}
use Rattle.grammar.specs.Reading.{names_in_range, equations_in_range, terms_in_range}
use Rattle.columns.specs.Farthest.{Due, count, name, term, order, Said, form_of, first_line, Longest}

-- The lines that are due from some place on: none, or one with a test of what it says, and by what it says those that are due after it. The test
-- is a count's range; no other line has one.
pub data Plan : Type 0 where
  nothing : Plan
  expect : (d : Due) → (Said d → Bool) → (Said d → Plan) → Plan

abbrev pub counted : Text → (ℕ → Bool) → (ℕ → Plan) → Plan
counted key in_range plan = expect (count key) (λ n. in_range n.it) (λ n. plan n.it)

abbrev pub due : Due → Plan → Plan
due d plan = expect d (λ a. true) (λ a. plan)

abbrev pub times : ℕ → Due → Plan → Plan
times zero d plan = plan
times (suc more) d plan = due d (times more d plan)

-- A description's lines.
unfoldable pub description : Plan
description =
    counted (ascii "names=") names_in_range (λ n. times n name
    (counted (ascii "equations=") equations_in_range (λ e.
    counted (ascii "terms=") terms_in_range (λ t. times t term
    (times e (count (ascii "equation="))
    (due (count (ascii "root="))
    (due order nothing)))))))

abbrev pub NoLine : Due → Text → Type 0
NoLine d s = (a : Said d) (r : Text) → form_of d s ≡ past a r → ⊥

-- `Wrong plan next s bad column`: s is the text from the line with the number `next` on. Its lines up to the one with the number `bad` have the
-- form that is due. That one has not, and its column is
-- - one more than the length of the longest beginning of the line with which some line of right form, due at that place, begins;
-- - the first byte of its number where it is a count of right form that is out of range;
-- - 1 where no line is due any more.
pub data Wrong : Plan → ℕ → Text → (bad column : ℕ) → Type 0 where
  no_line : {d : Due} {fits : Said d → Bool} {after : Said d → Plan} {next : ℕ} {s : Text} {k : ℕ}
      → NoLine d s → Longest (form_of d) (first_line s) k → Wrong (expect d fits after) next s next (suc k)
  out_of_range : {key : Text} {fits : Placed ℕ → Bool} {after : Placed ℕ → Plan} {next : ℕ} {s r : Text} {n : Placed ℕ}
      → count_line key s ≡ past n r → fits n ≡ false → Wrong (expect (count key) fits after) next s next (suc (length key))
  left_over : {next b : ℕ} {s : Text} → Wrong nothing next (b ∷ s) next 1
  later : {d : Due} {fits : Said d → Bool} {after : Said d → Plan} {next : ℕ} {s r : Text} {a : Said d} {bad column : ℕ}
      → form_of d s ≡ past a r → fits a ≡ true → Wrong (after a) (suc next) r bad column → Wrong (expect d fits after) next s bad column
