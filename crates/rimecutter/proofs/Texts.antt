-- From what a call comes to, to the text that is printed of it.
-- Assumes nothing.
use Rattle.std.specs.Prelude.{Result, Ok, Err}
use mathlib.Core.Path.{◌≡◌, refl, sym, ap, ap₂, subst, ◌∙◌, ◌≡⟨◌⟩◌, ◌∎}
use mathlib.Core.Bool.{Bool, true, false, ◌&&◌}
use mathlib.Core.Logic.{inl, inr}
use mathlib.Core.List.{List, [], ◌∷◌, ◌++◌, map}
use Prim.Native.Nat.{ℕ, ◌*◌, ◌≤◌, ◌<◌, zero-le}
use native.Mathlib.Omega.{arith}
use lib.Dec.{T, leb, leb→le}
use Rattle.meaning.proofs.Tests.{and_left, and_right, or_cases}
use lib.ListN.{length, take, drop, length-map, length-take, length-append}
use Rattle.printing.proofs.Lengths.{length-answer}
use Rattle.printing.proofs.Refusals.{length-refusal}
use lib.Seq.{take_at}
use Rattle.std.specs.Prelude.{Option}
use Rattle.meaning.specs.Bytes.{Text}
use Rattle.meaning.specs.Labels.{Label, number, in_words}
use Rattle.meaning.specs.Descriptions.{Description, Order, names}
use Rattle.meaning.specs.Legal.{Each}
use Rattle.meaning.specs.Answers as A
use Rattle.meaning.specs.Answers.{Outcome, too_large, listed, Lists, Answers, Refusal, too_long, in_line, large, Fault, form}
use Rattle.meaning.specs.Answers.{name, range, amount, fault_number, reason_of, line_of, column_of, Verdict}
use Rattle.meaning.proofs.Digits.{size→small}
use Rattle.meaning.proofs.Answers.{reason-eq, rounds-eq, labels-eq, answer-right}
use Rattle.meaning.proofs.Members.{each_in}
use Rattle.meaning.proofs.Listings.{listed-held, listed-few}
use Rattle.grammar.specs.Reading.{Reading, read, overlong, bad_line, read_text}
use Rattle.grammar.specs.Writing.{in_name, NameForm}
use Rattle.grammar.proofs.Writes.{each_weaken}
use Rattle.grammar.proofs.Acceptance.{accepted→}
use Rattle.grammar.proofs.Lengths.{→overlong}
use Rattle.faults.specs.CodedFaults.{fault_of}
use Rattle.table.specs.Encoded.{filled, word_of}
use Rattle.areas.specs.Rows.{held}
use Rattle.areas.proofs.Held.{length-held, held-append, held-in_words}
use Rattle.grammar.specs.Text.{is_lower, is_digit}
use Rattle.grammar.specs.Printed.{refused_text, answer_text}
use Rattle.grammar.specs.Areas.{WrittenOrNone}
use Rattle.label_texts.specs.Packed.{name_texts, counts_of}
use Rattle.printing.proofs.Callers.{Bytes, Fits, same_answer}
use Rattle.rimecutter.specs.Calls.{Call, refusing, answering, work_words, answer_words, too_short, of_outcome}
use Rattle.rimecutter.specs.Calls.{of_reading, unless_short, call, own_call, verdict_of, shown, answer_after, text_of}
use Rattle.rimecutter.specs.Answers.{Answer, answer_in, names_with, verdict_for, NamesFor, said_text, listed_in, TextWritten}
use Rattle.rimecutter.specs.declared.calls.Response.{Response}
use Rattle.rounds.specs.declared.Listed.{Listed}
use Rattle.rimecutter.specs.declared.Refusal as Why
use Rattle.rimecutter.specs.declared.Refusal.TheVariants.{TooLong, Bad, TooLarge}
use Rattle.rimecutter.proofs.Responses.{Told, shown-length}

-- A refusal's text is that of its number, line and column.
refused-text : (c : Call) (v : Verdict) → v ≡ verdict_of c → (v.reason ≡ 0 → ⊥) → text_of c ≡ refused_text v.reason v.line v.column
refused-text (refusing r) v e some = ap (λ (x : Verdict). refused_text x.reason x.line x.column) (sym e)
refused-text (answering words rounds labels) v e some = absurd (some (reason-eq e))

-- No refusal has number 0.
faults-numbered : (f : Fault) → 1 ≤ fault_number f
faults-numbered form = omega arith
faults-numbered name = omega arith
faults-numbered range = omega arith
faults-numbered amount = omega arith

pub faults-below : (f : Fault) → fault_number f ≤ 5
faults-below form = omega arith
faults-below name = omega arith
faults-below range = omega arith
faults-below amount = omega arith

pub refusals-numbered : (r : Refusal) → 1 ≤ reason_of r
refusals-numbered too_long = omega arith
refusals-numbered (in_line f line column) = faults-numbered f
refusals-numbered large = omega arith

-- An answer comes from a description that was read.
pub record Origin (text : Text) (words : List Text) (rounds : ℕ) (labels : List Label) : Type 0 where
  pub given : Description
  pub order : Order
  pub reads : read_text text ≡ read given order
  pub named : words ≡ given.words
  pub lists : Lists given order rounds labels

abbrev words_in : Call → List Text
words_in (refusing r) = []
words_in (answering words rounds labels) = words

abbrev rounds_in : Call → ℕ
rounds_in (refusing r) = 0
rounds_in (answering words rounds labels) = rounds

abbrev labels_in : Call → List Label
labels_in (refusing r) = []
labels_in (answering words rounds labels) = labels

abbrev IsAnswer : Call → Type 0
IsAnswer (refusing r) = ⊥
IsAnswer (answering words rounds labels) = Unit {0}

module _ (text : Text) (words : List Text) (rounds : ℕ) (labels : List Label) where
  abbrev this : Call
  this = answering words rounds labels

  no-refusal : (r : Refusal) → refusing r ≡ this → ⊥
  no-refusal r e = subst IsAnswer (sym e) tt

  from-outcome : (d : Description) (o : Order) (x : Outcome) → read_text text ≡ read d o → Answers d o x → of_outcome d x ≡ this
      → Origin text words rounds labels
  from-outcome d o too_large r a e = absurd (no-refusal large e)
  from-outcome d o (listed k ls) r a e =
      record {
        given = d;
        order = o;
        reads = r;
        named = ap words_in (sym e);
        lists = subst (λ (m : ℕ). Lists d o m labels) (ap rounds_in e) (subst (Lists d o k) (ap labels_in e) a);
      }

  from-reading : (x : Reading) → read_text text ≡ x → of_reading x ≡ this → Origin text words rounds labels
  from-reading (read d o) r e = from-outcome d o (A.answer d o) r (answer-right d o) e
  from-reading overlong r e = absurd (no-refusal too_long e)
  from-reading (bad_line f line) r e = absurd (no-refusal (in_line f.fault line f.column) e)

  from-call : (b : Bool) → unless_short b (read_text text) ≡ this → Origin text words rounds labels
  from-call true e = absurd (no-refusal too_long e)
  from-call false e = from-reading (read_text text) refl e

  pub call→origin : (w a : ℕ) → call text w a ≡ this → Origin text words rounds labels
  unfolding call
  call→origin w a e = from-call (too_short w a) e

-- The names of a description that was read, byte by byte.
within-byte : (low high b : ℕ) → 1 ≤ low → high < 256 → T (leb low b && leb b high) → (1 ≤ b) × (b < 256)
within-byte low high b g h t =
    let l = leb→le low b (and_left (leb low b) (leb b high) t) in
    let m = leb→le b high (and_right (leb low b) (leb b high) t) in
    (omega arith, omega arith)

name-byte : (b : ℕ) → T (in_name b) → (1 ≤ b) × (b < 256)
unfolding is_lower is_digit
name-byte b t =
    elim (or_cases (is_lower b) (is_digit b) t) [
      | inl h ↦ within-byte 97 122 b (omega arith) (omega arith) h
      | inr h ↦ within-byte 48 57 b (omega arith) (omega arith) h
    ]

name-bytes : (w : Text) → NameForm w → Bytes w
unfolding is_lower
name-bytes [] h = absurd h
name-bytes (b ∷ w) h =
    let first = within-byte 97 122 b (omega arith) (omega arith) h.0 in
    (omega (arith, h.1), (first, each_weaken (λ c. T (in_name c)) (λ c. (1 ≤ c) × (c < 256)) w name-byte h.2))

-- An answer area begins with the labels' numbers.
shown-held : (ls : List Label) (answer : List ℕ) → held (shown ls answer) ≡ map number ls ++ held (drop (2 * length ls) answer)
shown-held ls answer =
    let rest = drop (2 * length ls) answer in
    held-append (length ls) (in_words (map number ls)) rest (shown-length ls) ∙ ap (λ (ns : List ℕ). ns ++ held rest) (held-in_words (map number ls))

-- An answer's text is that of its words.
record Listing (c : Call) (rounds n : ℕ) (names answer : List ℕ) : Type 0 where
  pub few : n ≤ 1024
  pub says : text_of c ≡ answer_text (name_texts names) rounds (map counts_of (take n (held answer)))

listed-text : (text : Text) (c : Call) → own_call text ≡ c → (rounds n : ℕ) (names answer answer' : List ℕ)
    → verdict_for (Ok (record { rounds = rounds; labels = n })) ≡ verdict_of c → NamesFor c names → answer' ≡ answer_after c answer
    → Listing c rounds n names answer'
listed-text text (refusing r) e rounds n names answer answer' v ns put = absurd (omega (arith, refusals-numbered r, reason-eq v))
listed-text text (answering words k ls) e rounds n names answer answer' v ns put =
    let from = call→origin text words k ls work_words answer_words e in
    let d = from.given in
    let legal = accepted→ text d from.order from.reads in
    let told = listed-held d from.order k ls from.lists in
    let count : n ≡ length ls = labels-eq v in
    let size : length (map number ls) ≡ n = sym (count ∙ sym (rw length-map)) in
    let rest = held (drop (2 * length ls) answer) in
    let these : take n (held answer') ≡ map number ls =
    ap (λ (ws : List ℕ). take n (held ws)) put ∙ ap (take n) (shown-held ls answer) ∙ take_at (map number ls) rest n size in
    let bytes : Each Bytes words = subst (Each Bytes) (sym from.named) (each_weaken NameForm Bytes d.words name-bytes legal.2.0) in
    let fit : Each (Fits words) ls = each_in (Fits words) ls (λ a m. ((told a m).0 ∙ ap length (sym from.named), size→small a (told a m).1)) in
    let packed = filled 24 0 (map word_of words) in
    let few_words : length words ≤ 24 = omega (arith, legal.1.name_count.1, ap length from.named) in
    record {
      few = omega (arith, listed-few d from.order k ls from.lists);
      says = answer_text words k ls
          ≡⟨ ap (λ (m : ℕ). answer_text words m ls) (sym (rounds-eq v)) ⟩ answer_text words rounds ls
          ≡⟨ sym (same_answer words few_words bytes rounds ls fit) ⟩ answer_text (name_texts packed) rounds (map counts_of (map number ls))
          ≡⟨ sym (ap₂ (λ (vs ws : List ℕ). answer_text (name_texts ws) rounds (map counts_of vs)) these ns) ⟩
          answer_text (name_texts names) rounds (map counts_of (take n (held answer'))) ∎;
    }

-- Labels that are held are two words each.
pub words-there : {labels count : ℕ} (words : List ℕ) → count ≡ length (held words) → labels ≤ count → 2 * labels ≤ length words
words-there words counted h = omega (arith, length-held words)

-- What a response's text is, by its answer.
module _ {r : Result Response Why.Refusal} {words area area' : List ℕ} {o : Option ℕ} where
  pub written : (a : Answer) → answer_in r ≡ a → WrittenOrNone (said_text a (names_with r) words) area area' o → TextWritten r words area area' o
  written a e h = record { printed = λ all. subst (λ (x : Answer). WrittenOrNone (said_text x (names_with r) words) area area' o) (sym e) h }

  pub unwritten : (l : Listed) {count : ℕ} → answer_in r ≡ Ok l → count ≡ length (held words) → count < l.labels
      → TextWritten r words area area' o
  unwritten l e counted few = record { printed = λ all. absurd (omega (arith, ap listed_in e)) }

-- An answer's labels are words of the answer area.
listed-count : (a : Answer) → listed_in a ≡ (verdict_for a).labels
listed-count (Ok l) = refl
listed-count (Err TooLong) = refl
listed-count (Err (Bad b)) = refl
listed-count (Err TooLarge) = refl

labels-fit : (c : Call) (answer : List ℕ) → (verdict_of c).labels ≤ length (held (answer_after c answer))
labels-fit (refusing r) answer = zero-le
labels-fit (answering words rounds labels) answer =
    let rest = held (drop (2 * length labels) answer) in
    omega (arith, ap length (shown-held labels answer), length-append (map number labels) rest, length-map labels number)

-- The text of what is told of a call is the call's.
module _ (text : Text) (answer answer' : List ℕ) (r : Result Response Why.Refusal) (h : Told (own_call text) answer answer' r) where
  all_there : listed_in (answer_in r) ≤ length (held answer')
  all_there = omega (arith, listed-count (answer_in r), labels-eq h.0, labels-fit (own_call text) answer, ap (λ (ws : List ℕ). length (held ws)) h.1)

  told_text : (a : Answer) → answer_in r ≡ a → text_of (own_call text) ≡ said_text a (names_with r) answer'
  told_text (Ok l) e =
      (listed-text text (own_call text) refl l.rounds l.labels (names_with r) answer answer' (ap verdict_for (sym e) ∙ h.0) h.2 h.1).says
  told_text (Err TooLong) e =
      refused-text (own_call text) (verdict_for (Err TooLong)) (ap verdict_for (sym e) ∙ h.0) (λ z. omega arith)
  told_text (Err (Bad b)) e =
      refused-text (own_call text) (verdict_for (Err (Bad b))) (ap verdict_for (sym e) ∙ h.0)
      (λ z. omega (arith, faults-numbered (fault_of b.flaw.fault)))
  told_text (Err TooLarge) e =
      refused-text (own_call text) (verdict_for (Err TooLarge)) (ap verdict_for (sym e) ∙ h.0) (λ z. omega arith)

  pub told-printed : {area area' : Text} {o : Option ℕ} → TextWritten r answer' area area' o → WrittenOrNone (text_of (own_call text)) area area' o
  told-printed {area} {area'} {o} w =
      subst (λ (t : Text). WrittenOrNone t area area' o) (sym (told_text (answer_in r) refl)) (w.printed all_there)

-- 303,104 bytes hold every text.
pub text-fits : (text : Text) → length (text_of (own_call text)) ≤ 303104
text-fits text = fits (own_call text) refl
  where
    fits : (c : Call) → own_call text ≡ c → length (text_of c) ≤ 303104
    fits (refusing r) e = omega (arith, length-refusal (reason_of r) (line_of r) (column_of r))
    fits (answering words k ls) e =
        let names = filled 24 0 (map word_of words) in
        let l = listed-text text (answering words k ls) e k (length ls) names [] (shown ls []) refl refl refl in
        let these = held (shown ls []) in
        omega (arith, l.few, ap length l.says, length-answer names k (take (length ls) these), length-take (length ls) these)

-- A text that is too long is refused with 1, without a line or a column.
pub long-printed : (text : Text) {area area' : List ℕ} {o : Option ℕ} → 8192 < length text → WrittenOrNone (refused_text 1 0 0) area area' o
    → WrittenOrNone (text_of (own_call text)) area area' o
unfolding call
long-printed text {area} {area'} {o} h p = subst (λ (r : Reading). WrittenOrNone (text_of (of_reading r)) area area' o) (sym (→overlong text h)) p
