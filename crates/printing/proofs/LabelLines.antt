-- The lines of the labels: the first of those to come, and those behind it.
-- Assumes nothing.
use mathlib.Core.Path.{◌≡◌, sym, ap, ◌∙◌}
use mathlib.Core.List.{List, [], ◌∷◌, ◌++◌, map}
use Prim.Native.Nat.{ℕ, ◌+◌, ◌*◌, ◌≤◌, ◌<◌, zero-le}
use native.Mathlib.Numerals.{add-one}
use native.Mathlib.Omega.{arith}
use lib.ListN.{length, drop, get_or, length-append}
use lib.Seq.{drop-cons, drop-length}
use Rattle.meaning.specs.Bytes.{Text, ascii}
use Rattle.grammar.specs.Printed.{line, printed_label, label_lines}
use Rattle.numerals.proofs.Line.{length-line}
use Rattle.label_texts.specs.Packed.{name_texts, counts_of}
use Rattle.label_texts.proofs.Tau.{length_label}

abbrev pub label_line : List ℕ → ℕ → Text
label_line names label = line (ascii "label=") (printed_label (name_texts names) (counts_of label))

abbrev pub lines_from : List ℕ → List ℕ → ℕ → Text
lines_from names labels i = label_lines (name_texts names) (map counts_of (drop i labels))

pub lines_step : (names labels : List ℕ) (i : ℕ) → i < length labels →
    lines_from names labels i ≡ label_line names (get_or labels i 0) ++ lines_from names labels (i + 1)
unfolding label_lines
lines_step names labels i h =
    let label = drop-cons labels i 0 h ∙ ap (λ (n : ℕ). get_or labels i 0 ∷ drop n labels) (sym (add-one i)) in
    ap (λ (ls : List ℕ). label_lines (name_texts names) (map counts_of ls)) label

pub lines_end : (names labels : List ℕ) (i : ℕ) → i ≡ length labels → lines_from names labels i ≡ []
unfolding label_lines
lines_end names labels i e = ap (λ (ls : List ℕ). label_lines (name_texts names) (map counts_of ls)) (ap (λ (n : ℕ). drop n labels) e ∙ drop-length labels)

pub length-lines : (names labels : List ℕ) (i : ℕ) → i < length labels →
    length (lines_from names labels i) ≡ length (printed_label (name_texts names) (counts_of (get_or labels i 0))) + 7 + length
    (lines_from names labels (i + 1))
length-lines names labels i h =
    let value = printed_label (name_texts names) (counts_of (get_or labels i 0)) in
    let rest = lines_from names labels (i + 1) in
    rw (lines_step names labels i h, length-append (line (ascii "label=") value) rest, length-line (ascii "label=") value) (omega arith)

-- no line is longer than 295 bytes
pub lines-short : (names labels : List ℕ) → length (label_lines (name_texts names) (map counts_of labels)) ≤ 295 * length labels
unfolding label_lines
lines-short names [] = zero-le
lines-short names (l ∷ labels) =
    let value = printed_label (name_texts names) (counts_of l) in
    rw (length-append (line (ascii "label=") value) (label_lines (name_texts names) (map counts_of labels)), length-line (ascii "label=") value)
    (omega (arith, length_label names l, lines-short names labels))
