-- The text that the program prints (docs/FORMAT.md, "What is printed").
-- Assumes nothing.
use Rattle.std.specs.Prelude.{List, [], ◌∷◌, ◌++◌, ℕ, length}
use Rattle.meaning.specs.Bytes.{Text, ascii}
use Rattle.meaning.specs.Labels.{Label}
use Rattle.meaning.specs.Answers.{Refusal, reason_of, line_of, column_of}
use Rattle.grammar.specs.Forms.{lf}
use Rattle.grammar.specs.Marks.{decimal, label_text}

-- A label; the empty bag is printed `tau`.
abbrev pub or_tau : Text → Text
or_tau [] = ascii "tau"
or_tau (b ∷ s) = b ∷ s

unfoldable pub printed_label : List Text → Label → Text
printed_label words a = or_tau (label_text words a)

-- Lines.
abbrev pub line : Text → Text → Text
line key value = key ++ value ++ (lf ∷ [])

unfoldable pub label_lines : List Text → List Label → Text
label_lines words [] = []
label_lines words (a ∷ s) = line (ascii "label=") (printed_label words a) ++ label_lines words s

unfoldable pub answer_text : List Text → ℕ → List Label → Text
answer_text words rounds labels =
    line (ascii "answer=") (ascii "ok")
    ++ (line (ascii "rounds=") (decimal rounds) ++ (line (ascii "labels=") (decimal (length labels)) ++ label_lines words labels))

unfoldable pub refused_text : (reason at column : ℕ) → Text
refused_text reason at column =
    line (ascii "answer=") (ascii "refused")
    ++ (line (ascii "reason=") (decimal reason) ++ (line (ascii "line=") (decimal at) ++ line (ascii "column=") (decimal column)))

abbrev pub refusal_text : Refusal → Text
refusal_text r = refused_text (reason_of r) (line_of r) (column_of r)
