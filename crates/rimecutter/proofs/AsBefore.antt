-- What is printed is what was printed while a description had at most 12 names, unless a text's first line gives 13 to 24.
-- Assumes nothing.
use mathlib.Core.Path.{◌≡◌, refl, sym, ap, subst, ◌∙◌}
use mathlib.Core.Logic.Iff
use mathlib.Core.List.{[], ◌∷◌, ◌++◌}
use Prim.Native.Nat.{ℕ, ◌≤◌}
use native.Mathlib.Omega.{arith}
use Rattle.meaning.specs.Bytes.{Text, ascii}
use Rattle.meaning.specs.Descriptions.{Description, Order, names}
use Rattle.meaning.specs.Legal.{Legal}
use Rattle.grammar.specs.Text.{Past, past, stuck, Placed, literal, is_lower, is_digit, second_digit, number}
use Rattle.grammar.specs.Forms.{count_line, name_line}
use Rattle.grammar.specs.Marks.{decimal}
use Rattle.grammar.specs.Writing.{line_before, written}
use Rattle.grammar.specs.Reading.{take_number, take_name, lines, read, whole_text, read_text, read_up_to}
use Rattle.grammar.specs.Printed.{refused_text}
use Rattle.grammar.specs.Areas.{Printed}
use Rattle.grammar.proofs.Texts as X
use Rattle.grammar.proofs.Writes.{writes-placed}
use Rattle.grammar.proofs.Atoms.{itself, faultless, Small, writes-number}
use Rattle.grammar.proofs.LineForms.{WritesLine, line-ended, line_after}
use Rattle.grammar.proofs.Acceptance.{accepted→}
use Rattle.grammar.proofs.FewNames.{NamesGiven, ManyNames, read-as-before}
use Rattle.rimecutter.specs.Calls.{of_reading, call, own_call, text_of, printed_before}
use Rattle.rimecutter.specs.Demands.{Called}

-- What prints stays.
pub prints-as-before : (text : Text)
    → (ManyNames text → ⊥)
    → printed_before text ≡ text_of (own_call text)
unfolding call
prints-as-before text few = ap (λ r. text_of (of_reading r)) (read-as-before text few)

-- The same of a call for C, and so of the program, which prints that call's text.
pub called-as-before : (c : Called)
    → (ManyNames c.text → ⊥)
    → Printed (printed_before c.text) c.area c.area' c.size
called-as-before c few = subst (λ (t : Text). Printed t c.area c.area' c.size) (sym (prints-as-before c.text few)) c.kept

-- The first line of a description gives the number of its names.
names-line : WritesLine (count_line (ascii "names=")) (λ n. n.it) faultless itself (λ n. ascii "names=" ++ decimal n) Small
unfolding count_line is_lower is_digit
names-line = line_after (ascii "names=") (line-ended (writes-placed (λ _. writes-number)) tt itself faultless itself (λ n. refl) (λ n. Iff.rfl))

abbrev given : Past (Placed ℕ) → ℕ
given (past n rest) = n.it
given (stuck rest) = 0

first-given : (m : ℕ) (rest : Text) → Small m → {n : ℕ} → NamesGiven (line_before (ascii "names=" ++ decimal m) rest) n → n ≡ m
first-given m rest small g =
    let reads = names-line.complete m small rest in
    ap given (sym g.line ∙ reads.reads) ∙ reads.said

names-given : (d : Description) (o : Order) → Legal d o → {n : ℕ} → NamesGiven (written d o) n → n ≡ names d
unfolding written
names-given d o legal g = first-given (names d) _ (omega (arith, legal.name_count.1)) g

few-names : (text : Text) {d : Description} {o : Order} → read_text text ≡ read d o → names d ≤ 12 → ManyNames text → ⊥
few-names text {d} {o} reads few m =
    let h = accepted→ text d o reads in
    omega (arith, names-given d o h.1 (subst (λ (t : Text). NamesGiven t m.0) h.0 m.1), m.2, few)

-- So what prints stays of every description of at most 12 names.
pub described-as-before : (text : Text) {d : Description} {o : Order}
    → read_text text ≡ read d o
    → names d ≤ 12
    → printed_before text ≡ text_of (own_call text)
described-as-before text reads few = prints-as-before text (few-names text reads few)

-- What was printed, and what is, of a line that gives 13 names, with none after it: the line is right now, and a name is missing.
thirteen-names : let given = X.text ("names=13" ∷ []) in (printed_before given ≡ refused_text 2 1 7) × (text_of (own_call given) ≡ refused_text 2 2 1)
unfolding literal is_digit second_digit number count_line name_line take_number take_name lines whole_text read_text read_up_to call
thirteen-names = (refl, refl)
