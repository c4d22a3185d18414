-- The text of a tally (docs/FORMAT.md, "The tally of a model store").
-- Assumes nothing.
use Rattle.std.specs.Prelude.{List, [], ◌∷◌, ◌++◌, ℕ}
use Rattle.meaning.specs.Bytes.{Text, ascii}
use Rattle.grammar.specs.Marks.{decimal}
use Rattle.grammar.specs.Printed.{line}
use Rattle.tally.specs.declared.Tally.{Tally}
use Rattle.tally.specs.Figures.{refusal_numbers, refused}

-- A line for each number of a refusal, with its figure: numbers and figures side by side, as far as both go.
abbrev pub reason_key : ℕ → Text
reason_key number = ascii "reason" ++ (decimal number ++ ascii "=")

unfoldable pub reason_lines : List ℕ → List ℕ → Text
reason_lines [] figures = []
reason_lines (n ∷ ns) [] = []
reason_lines (n ∷ ns) (x ∷ xs) = line (reason_key n) (decimal x) ++ reason_lines ns xs

unfoldable pub tally_text : Tally → Text
tally_text t =
    line (ascii "descriptions=") (decimal t.descriptions)
    ++ (line (ascii "answered=") (decimal t.answered)
    ++ (line (ascii "refused=") (decimal (refused t))
    ++ (reason_lines refusal_numbers t.refusals
    ++ (line (ascii "labels=") (decimal t.labels) ++ line (ascii "rounds=") (decimal t.rounds)))))
