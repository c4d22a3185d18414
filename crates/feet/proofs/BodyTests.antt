-- The tests of a body and of the root, as the code makes them.
-- Assumes nothing.
use mathlib.Core.Path.{◌≡◌, refl}
use mathlib.Core.Bool.{Bool, true, false}
use mathlib.Core.List.{List, [], ◌∷◌, ◌++◌}
use Prim.Native.Nat.{ℕ}
use native.Mathlib.Omega.{arith}
use lib.Dec.{ltb}
use borrow.Author.Tests.{le-leb}
use Rattle.meaning.specs.Bytes.{Text, ascii}
use Rattle.meaning.specs.Answers.{range}
use Rattle.grammar.specs.Text.{Past, past, stuck, Placed}
use Rattle.grammar.specs.Forms.{count_line}
use Rattle.grammar.specs.Reading.{taken_if, formed, take_number, take_body, Walk, reached, walk, after_line, one_line}
use Rattle.keyed.specs.Numbers.{between}

pub below-test : (t n : ℕ) → between 0 t n ≡ ltb n t
below-test t n = rw (le-leb 0 n (omega arith))

-- A body is a number below that of the terms.
abbrev pub on_body : List ℕ → ℕ → ℕ → Text → Walk (List ℕ)
on_body bodies n line s = reached (bodies ++ (n ∷ [])) line s

pub body-line : (terms : ℕ) (bodies : List ℕ) (line : ℕ) (s : Text)
    → walk (one_line (take_number (ascii "equation=") (between 0 terms) range) line s) (on_body bodies) ≡ one_line (take_body terms bodies) line s
unfolding take_number take_body
body-line terms bodies line s = by_form (count_line (ascii "equation=") s)
  where
    by-test : (t : Bool) (n : Placed ℕ) (r : Text)
        → walk (after_line line s (taken_if t range n.from n.it r)) (on_body bodies)
        ≡ after_line line s (taken_if t range n.from (bodies ++ (n.it ∷ [])) r)
    by-test true n r = refl
    by-test false n r = refl

    by_form : (d : Past (Placed ℕ))
        → walk (after_line line s (formed d (λ n. taken_if (between 0 terms n.it) range n.from n.it))) (on_body bodies)
        ≡ after_line line s (formed d (λ n. taken_if (ltb n.it terms) range n.from (bodies ++ (n.it ∷ []))))
    by_form (past n r) = rw (below-test terms n.it) (by-test (ltb n.it terms) n r)
    by_form (stuck r) = refl
