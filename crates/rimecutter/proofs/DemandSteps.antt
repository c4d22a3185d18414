-- The steps to the theorems of Demands.antt.
-- Assumes nothing.
use mathlib.Core.Path.{◌≡◌, refl, sym, ap, subst, ◌∙◌}
use mathlib.Core.Bool.{Bool, true, false, ◌||◌}
use mathlib.Core.Logic.{◌⊎◌, inl, inr, ◌↔◌}
use mathlib.Core.List.{List}
use Prim.Native.Nat.{ℕ, zero, suc, ◌≤◌, ◌<◌}
use native.Mathlib.Omega.{arith}
use borrow.Author.Tests.{lt-ltb, le-ltb, ltb-true, ltb-false}
use lib.Dec.{T, ltb, leb, le→leb}
use lib.ListN.{length, get_or}
use Rattle.meaning.specs.Bytes.{Text}
use Rattle.meaning.specs.Labels.{Label}
use Rattle.meaning.specs.Descriptions.{Description, Order}
use Rattle.meaning.specs.Limits.{PassesLimit}
use Rattle.meaning.specs.Answers as A
use Rattle.meaning.specs.Answers.{Outcome, too_large, listed, Lists, Answers, form, name, range, amount}
use Rattle.meaning.specs.Answers.{Refusal, too_long, in_line, large, reason_of, Verdict}
use Rattle.meaning.specs.Widening.{Widens}
use Rattle.meaning.proofs.Tests.{or-true→, or-false→}
use Rattle.meaning.proofs.Alike.{alike-through}
use Rattle.meaning.proofs.Answers.{reason-eq, labels-eq, answer-right, answer-only}
use Rattle.meaning.proofs.Widening as W
use Rattle.meaning.proofs.Widening.{tightening}
use Rattle.grammar.specs.Reading.{Reading, read, overlong, bad_line, read_text}
use Rattle.grammar.proofs.Acceptance.{accepted→}
use Rattle.grammar.proofs.Lengths.{overlong→, →overlong}
use Rattle.grammar.specs.Printed.{answer_text, refused_text}
use Rattle.grammar.specs.Areas.{with_start}
use Rattle.rimecutter.specs.Calls.{Call, refusing, answering, work_words, answer_words, too_short, of_outcome}
use Rattle.rimecutter.specs.Calls.{of_reading, unless_short, call, own_call, verdict_of, text_of}
use Rattle.rimecutter.specs.Answers.{Settled}
use Rattle.rimecutter.specs.Refusals.{Roomy, Large, Due}
use Rattle.rimecutter.specs.Demands.{Made, DueOf, Answered, RefusedWith, Refused, Right, Safe}
use Rattle.rimecutter.specs.Demands.{Called, text_due, Holds, number_of, SaysOk, SafeText}
use Rattle.rimecutter.proofs.Texts.{refusals-numbered, faults-below}

-- Areas: the test, and what it says.
pub short→ : {work answer : ℕ} → too_short work answer ≡ true → (work < work_words) ⊎ (answer < answer_words)
short→ {work} {answer} e =
    elim (or-true→ (ltb work work_words) (ltb answer answer_words) e) [
      | inl x ↦ inl (ltb-true work work_words x)
      | inr x ↦ inr (ltb-true answer answer_words x)
    ]

pub →short : {work answer : ℕ} → (work < work_words) ⊎ (answer < answer_words) → too_short work answer ≡ true
→short {work = work} {answer = answer} (inl h) = rw (lt-ltb work work_words h)
→short {work = work} {answer = answer} (inr h) = or-true (ltb work work_words) (lt-ltb answer answer_words h)
  where
    or-true : (a : Bool) {b : Bool} → b ≡ true → (a || b) ≡ true
    or-true true e = refl
    or-true false e = e

pub roomy→ : {work answer : ℕ} → Roomy work answer → too_short work answer ≡ false
roomy→ {work} {answer} r = rw (le-ltb work work_words r.works, le-ltb answer answer_words r.answers)

pub →roomy : {work answer : ℕ} → too_short work answer ≡ false → Roomy work answer
→roomy {work} {answer} e =
    let fits = or-false→ (ltb work work_words) (ltb answer answer_words) e in
    record { works = ltb-false work work_words fits.0; answers = ltb-false answer answer_words fits.1 }

-- What a call comes to, from the input.
module _ (text : Text) (work answer : ℕ) where
  pub call-short : too_short work answer ≡ true → call text work answer ≡ refusing too_long
  unfolding call
  call-short e = ap (λ (b : Bool). unless_short b (read_text text)) e

  pub call-read : Roomy work answer → {x : Reading} → read_text text ≡ x → call text work answer ≡ of_reading x
  unfolding call
  call-read r e = ap (λ (b : Bool). unless_short b (read_text text)) (roomy→ r) ∙ ap of_reading e

  call_long : Due text work answer too_long → (b : Bool) → too_short work answer ≡ b → call text work answer ≡ refusing too_long
  call_long due true e = call-short e
  call_long (inl h) false e = call-short (→short {work = work} {answer = answer} (inl h))
  call_long (inr (inl h)) false e = call-short (→short {work = work} {answer = answer} (inr h))
  call_long (inr (inr h)) false e = call-read (→roomy e) (→overlong text h)

  -- A refusal that is due is what the call comes to.
  pub due→ : (r : Refusal) → Due text work answer r → call text work answer ≡ refusing r
  due→ too_long due = call_long due (too_short work answer) refl
  due→ (in_line f line column) due = call-read due.0 due.1
  due→ large due =
      let l = due.1 in
      call-read due.0 l.reads ∙ ap (of_outcome l.given) (sym (answer-only l.given l.order too_large l.passes))

-- Answers and refusals, by cases of the call.
module _ (m : Made) where
  abbrev Settles : Call → Type 0
  Settles c = Settled c m.work m.work' m.answer m.answer' m.result

  pub refused-by : {r : Refusal} → call m.text (length m.work) (length m.answer) ≡ refusing r → RefusedWith m r
  refused-by e = let s = subst Settles e m.kept in record { says = s.verdict; answers = s.answers; works = s.works }

  due-refused : (r : Refusal) → DueOf m r → Refused m
  due-refused r due = record { refusal = r; due = due; refused = refused-by (due→ m.text (length m.work) (length m.answer) r due) }

  by-outcome : Roomy (length m.work) (length m.answer) → {d : Description} {o : Order} → read_text m.text ≡ read d o
      → (x : Outcome) → A.answer d o ≡ x → Answered m ⊎ Refused m
  by-outcome roomy {d} {o} reads too_large e =
      inr (due-refused large (roomy, record { given = d; order = o; reads = reads; passes = subst (Answers d o) e (answer-right d o) }))
  by-outcome roomy {d} {o} reads (listed rounds labels) e =
      let s = subst Settles (call-read m.text (length m.work) (length m.answer) roomy reads ∙ ap (of_outcome d) e) m.kept in
      inl (record {
        given = d;
        order = o;
        reads = reads;
        rounds = rounds;
        labels = labels;
        lists = subst (Answers d o) e (answer-right d o);
        says = s.verdict;
        answers = s.answers;
        works = s.works;
      })

  by-reading : Roomy (length m.work) (length m.answer) → (x : Reading) → read_text m.text ≡ x → Answered m ⊎ Refused m
  by-reading roomy (read d o) e = by-outcome roomy e (A.answer d o) refl
  by-reading roomy overlong e = inr (due-refused too_long (inr (inr (overlong→ m.text e))))
  by-reading roomy (bad_line f line) e = inr (due-refused (in_line f.fault line f.column) (roomy, e))

  by-areas : (b : Bool) → too_short (length m.work) (length m.answer) ≡ b → Answered m ⊎ Refused m
  by-areas true e = inr (due-refused too_long (elim (short→ {work = length m.work} {answer = length m.answer} e) [ inl h ↦ inl h | inr h ↦ inr (inl h) ]))
  by-areas false e = by-reading (→roomy e) (read_text m.text) refl

  pub answered-or-refused : Answered m ⊎ Refused m
  answered-or-refused = by-areas (too_short (length m.work) (length m.answer)) refl

-- A refusal from its number, line and column.
refusal_from : (reason line column : ℕ) → Refusal
refusal_from zero line column = too_long
refusal_from (suc zero) line column = too_long
refusal_from (suc (suc zero)) line column = in_line form line column
refusal_from (suc (suc (suc zero))) line column = in_line name line column
refusal_from (suc (suc (suc (suc zero)))) line column = in_line range line column
refusal_from (suc (suc (suc (suc (suc zero))))) line column = in_line amount line column
refusal_from (suc (suc (suc (suc (suc (suc n)))))) line column = large

refusal-back : (r : Refusal) → refusal_from (A.refused r).reason (A.refused r).line (A.refused r).column ≡ r
unfolding refusal_from
refusal-back too_long = refl
refusal-back (in_line form line column) = refl
refusal-back (in_line name line column) = refl
refusal-back (in_line range line column) = refl
refusal-back (in_line amount line column) = refl
refusal-back large = refl

pub refusal-unique : {r r' : Refusal} {v : Verdict} → A.refused r ≡ v → A.refused r' ≡ v → r ≡ r'
refusal-unique p q = alike-through A.refused (λ (v : Verdict). refusal_from v.reason v.line v.column) refusal-back p q

pub no_answer : (r : Refusal) → (A.refused r).reason ≡ 0 → ⊥
no_answer r e = omega (arith, e, refusals-numbered r)

-- An answered call had areas that were long enough.
pub answered-roomy : (m : Made) → Answered m → Roomy (length m.work) (length m.answer)
answered-roomy m a = by (too_short (length m.work) (length m.answer)) refl
  where
    by : (b : Bool) → too_short (length m.work) (length m.answer) ≡ b → Roomy (length m.work) (length m.answer)
    by true e =
        let short = refused-by m (call-short m.text (length m.work) (length m.answer) e) in
        absurd (no_answer too_long (reason-eq (sym short.says ∙ a.says)))
    by false e = →roomy e

-- Demand 2, by the outcome.
pub read→right : (m : Made) {d : Description} {o : Order} → read_text m.text ≡ read d o → Roomy (length m.work) (length m.answer) → Right m d o
read→right m {d} {o} reads roomy =
    by (A.answer d o) (answer-right d o)
    (subst (Settles m) (call-read m.text (length m.work) (length m.answer) roomy reads) m.kept)
  where
    by : (x : Outcome) → Answers d o x → Settles m (of_outcome d x) → Right m d o
    by too_large a s = record { large = (λ e. a, λ p. reason-eq s.verdict); listing = λ few. absurd (few a) }
    by (listed rounds labels) a s =
        record {
          large = (λ e. absurd (omega (arith, e, reason-eq s.verdict)), λ p. absurd (a.within p));
          listing = λ few. record { rounds = rounds; labels = labels; lists = a; says = s.verdict; answers = s.answers };
        }

pub seven-large : (m : Made) (r : Refusal) → DueOf m r → reason_of r ≡ 7 → Large m.text
seven-large m too_long due e = absurd (omega (arith, e))
seven-large m (in_line f line column) due e = absurd (omega (arith, e, faults-below f))
seven-large m large due e = due.1

-- Demand 3.
abbrev ListsOf : Reading → ℕ → List Label → Type 0
ListsOf (read d o) rounds labels = Lists d o rounds labels
ListsOf overlong rounds labels = ⊥
ListsOf (bad_line f line) rounds labels = ⊥

answered-few : (d : Description) (o : Order) → W.Answered (A.answer d o) → PassesLimit d → ⊥
answered-few d o x p = let e = answer-only d o too_large p ∙ x.is in let z : ◌≡◌ {A = ℕ} 0 1 = cc in omega arith

-- What an answered call lists of the description that its text is read as.
pub answered-lists : (m : Made) {d : Description} {o : Order} → read_text m.text ≡ read d o → (a : Answered m) → Lists d o a.rounds a.labels
answered-lists m reads a = subst (λ (x : Reading). ListsOf x a.rounds a.labels) (sym a.reads ∙ reads) a.lists

module _ (m m' : Made) {d d' : Description} {o o' : Order} (reads : read_text m.text ≡ read d o) (reads' : read_text m'.text ≡ read d' o') where
  pub widens→safe : Widens d o d' o' → Roomy (length m.work) (length m.answer) → Answered m' → Safe m m' d o
  widens→safe w roomy a =
      let lists = answered-lists m' reads' a in
      let legal = (accepted→ m.text d o reads).1 in
      let legal' = (accepted→ m'.text d' o' reads').1 in
      let tight = tightening d o d' o' legal legal' w a.rounds a.labels (sym (answer-only d' o' (listed a.rounds a.labels) lists)) in
      let few : PassesLimit d → ⊥ = λ p. answered-few d o tight.answered p in
      record {
        answered = reason-eq ((read→right m reads roomy).listing few).says;
        listed-labels = a.labels;
        shown = a.answers;
        count = labels-eq a.says;
        covered = tight.covered;
      }

-- What a call for C printed.
pub holds→shown : (c : Called) → Holds c → c.area' ≡ with_start (text_due c) c.area
holds→shown c holds = shown-if (leb (length (text_due c)) (length c.area)) (le→leb (length (text_due c)) (length c.area) holds) c.kept.area
  where
    shown-if : (b : Bool) → T b → c.area' ≡ elim b [ true ↦ with_start (text_due c) c.area | false ↦ c.area ] → c.area' ≡ with_start (text_due c) c.area
    shown-if true t e = e
    shown-if false t e = absurd t

answer_ok : (words : List Text) (rounds : ℕ) (labels : List Label) (area : Text) → SaysOk (with_start (answer_text words rounds labels) area)
unfolding answer_text
answer_ok words rounds labels area = refl

-- a refusal says otherwise in its eighth byte
refusal-not-ok : (reason at column : ℕ) (area : Text) → SaysOk (with_start (refused_text reason at column) area) → ⊥
unfolding refused_text
refusal-not-ok reason at column area e = let k = ap (λ (t : Text). get_or t 7 0) e in omega arith

-- areas of the call's own are long enough
own : Roomy work_words answer_words
own = record { works = omega arith; answers = omega arith }

-- What a call for C printed that begins with the first line of an answer.
pub record PrintedAnswer (c : Called) (d : Description) (o : Order) : Type 0 where
  pub rounds : ℕ
  pub labels : List Label
  pub is : A.answer d o ≡ listed rounds labels
  pub shown : c.area' ≡ with_start (answer_text d.words rounds labels) c.area

module _ (c : Called) {d : Description} {o : Order} (reads : read_text c.text ≡ read d o) (holds : Holds c) where
  outcome-shown : {x : Outcome} → A.answer d o ≡ x → c.area' ≡ with_start (text_of (of_outcome d x)) c.area
  outcome-shown e =
      holds→shown c holds
      ∙ ap (λ (x : Call). with_start (text_of x) c.area) (call-read c.text work_words answer_words own reads ∙ ap (of_outcome d) e)

  of-outcome : (x : Outcome) → A.answer d o ≡ x → SaysOk c.area' → PrintedAnswer c d o
  of-outcome too_large e ok = absurd (refusal-not-ok 7 0 0 c.area (subst SaysOk (outcome-shown e) ok))
  of-outcome (listed rounds labels) e ok = record { rounds = rounds; labels = labels; is = e; shown = outcome-shown e }

  pub printed-answer : SaysOk c.area' → PrintedAnswer c d o
  printed-answer = of-outcome (A.answer d o) refl

module _ (c c' : Called) {d d' : Description} {o o' : Order} (reads : read_text c.text ≡ read d o) (reads' : read_text c'.text ≡ read d' o')
    (holds : Holds c) (holds' : Holds c') where
  pub safe-texts : Widens d o d' o' → SaysOk c'.area' → SafeText c c' d o d'
  safe-texts w ok =
      let p = printed-answer c' reads' holds' ok in
      let legal = (accepted→ c.text d o reads).1 in
      let legal' = (accepted→ c'.text d' o' reads').1 in
      let tight = tightening d o d' o' legal legal' w p.rounds p.labels p.is in
      record {
        answered =
            subst SaysOk (sym (outcome-shown c reads holds tight.answered.is))
            (answer_ok d.words tight.answered.rounds tight.answered.labels c.area);
        rounds = p.rounds;
        listed-labels = p.labels;
        shown = p.shown;
        covered = tight.covered;
      }

-- Refusal 8: no text is empty, and no other number is 8.
text-some : (c : Call) → 1 ≤ length (text_of c)
unfolding answer_text refused_text
text-some (refusing r) = omega arith
text-some (answering words rounds labels) = omega arith

verdict-below : (c : Call) → (verdict_of c).reason < 8
verdict-below (refusing too_long) = omega arith
verdict-below (refusing (in_line f line column)) = omega (arith, faults-below f)
verdict-below (refusing large) = omega arith
verdict-below (answering words rounds labels) = omega arith

module _ (c : Called) where
  abbrev coming : Call
  coming = own_call c.text

  by-fit : (fits : Bool)
      → c.size ≡ elim fits [ true ↦ length (text_due c) | false ↦ 0 ]
      → c.area' ≡ elim fits [ true ↦ with_start (text_due c) c.area | false ↦ c.area ]
      → (number : ℕ) → number ≡ elim fits [ true ↦ (verdict_of coming).reason | false ↦ 8 ]
      → ((c.size ≡ 0) ↔ (number ≡ 8)) × (number ≡ 8 → c.area' ≡ c.area)
  by-fit true size area number n =
      let some = text-some coming in
      let below = verdict-below coming in
      ((λ z. absurd (omega arith), λ e. absurd (omega arith)), λ e. absurd (omega arith))
  by-fit false size area number n = ((λ z. n, λ e. size), λ e. area)

  pub no_room : ((c.size ≡ 0) ↔ (number_of c ≡ 8)) × (number_of c ≡ 8 → c.area' ≡ c.area)
  no_room = by-fit (leb (length (text_due c)) (length c.area)) c.kept.size c.kept.area (number_of c) refl
