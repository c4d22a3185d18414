-- From what reading and the rounds answer to what a call leaves.
-- Assumes nothing.
use Rattle.std.specs.Prelude.{Result, Ok, Err}
use mathlib.Core.Path.{◌≡◌, refl, sym, ap, subst, ◌∙◌}
use mathlib.Core.Bool.{Bool, true, false}
use mathlib.Core.List.{List, [], ◌++◌, map}
use Prim.Native.Nat.{ℕ, ◌*◌, ◌≤◌}
use native.Mathlib.Omega.{arith}
use lib.Dec.{ltb}
use lib.ListN.{length, drop, length-map}
use borrow.Author.Tests.{ltb-false}
use Rattle.meaning.specs.Bytes.{Text}
use Rattle.meaning.specs.Labels.{Label, number, in_words}
use Rattle.meaning.specs.Descriptions as D
use Rattle.meaning.specs.Answers as A
use Rattle.meaning.specs.Answers.{Outcome, too_large, listed, too_long, in_line, large}
use Rattle.meaning.proofs.Tests.{or-false→}
use Rattle.grammar.specs.Reading.{read_text}
use Rattle.faults.specs.CodedFaults.{fault_for}
use Rattle.table.specs.declared.Order.{Order}
use Rattle.table.specs.Encoded.{filled, word_of}
use Rattle.table.specs.Holding.{names_in}
use Rattle.table.proofs.Holdings.{names-held}
use Rattle.areas.proofs.Held.{length-in_words}
use Rattle.areas.proofs.Zeroes.{zeroed-front}
use Rattle.reading.specs.declared.ReadError.{ReadError}
use Rattle.reading.specs.declared.ReadError.TheVariants as B
use Rattle.sets.specs.declared.TooLarge as S
use Rattle.rounds.specs.declared.Listed.{Listed}
use Rattle.rounds.specs.Alphabets.{alphabet_of, answer_area, Answered, AnsweredFew, AnsweredOwn}
use Rattle.rimecutter.specs.declared.Refusal.{Refusal}
use Rattle.rimecutter.specs.declared.Refusal.TheVariants.{TooLong, Bad, TooLarge}
use Rattle.rimecutter.specs.declared.calls.Response.{Response}
use Rattle.rimecutter.specs.Calls.{Call, refusing, answering, too_short, of_outcome, of_reading, unless_short, call, own_call}
use Rattle.rimecutter.specs.Calls.{verdict_of, answer_after, cleared, work_after, work_words, answer_words}
use Rattle.rimecutter.specs.Answers.{Answer, verdict_for, answer_in, names_with, NamesFor, Responded}
use Rattle.rimecutter.specs.Answers.{answer_for, refusal_for, RespondedFew, RespondedOwn, cleared_unless, Cleared}
use Rattle.rimecutter.proofs.Readings.{fault-back, Refused, ReadAs}
use Rattle.rimecutter.proofs.Uniqueness.{verdict-unique}

-- What is told of a call besides the work area.
abbrev pub Told : Call → (answer answer' : List ℕ) → Result Response Refusal → Type 0
Told c answer answer' r = (verdict_for (answer_in r) ≡ verdict_of c) × (answer' ≡ answer_after c answer) × NamesFor c (names_with r)

-- Areas that are long enough are as good as areas of the call's own.
own_read : (text : Text) → own_call text ≡ of_reading (read_text text)
unfolding call
own_read text = refl

pub long-enough : (work answer : ℕ) → too_short work answer ≡ false → (work_words ≤ work) × (answer_words ≤ answer)
long-enough work answer long =
    let fits = or-false→ (ltb work work_words) (ltb answer answer_words) long in
    (ltb-false work work_words fits.0, ltb-false answer answer_words fits.1)

pub long-responded : (text : Text) {work work' answer answer' : List ℕ} {r : Result Response Refusal} → too_short (length work) (length answer) ≡ false
    → Responded (own_call text) work work' answer answer' r → Responded (call text (length work) (length answer)) work work' answer answer' r
unfolding call
long-responded text {work} {work'} {answer} {answer'} {r} long h =
    subst (λ (b : Bool). Responded (unless_short b (read_text text)) work work' answer answer' r) (sym long) h

-- Refusal 1 before anything is read.
pub short-responded : (text : Text) (work answer : List ℕ) (r : Result Response Refusal) → answer_in r ≡ Err TooLong
    → too_short (length work) (length answer) ≡ true
    → Responded (call text (length work) (length answer)) work work answer answer r
unfolding call
short-responded text work answer r said e =
    subst (λ (b : Bool). Responded (unless_short b (read_text text)) work work answer answer r) (sym e)
    (record { settled = record { verdict = ap verdict_for said; works = refl; answers = refl }; names = tt })

-- The work area, from what is told.
answer_of : Call → Answer
answer_of (refusing too_long) = Err TooLong
answer_of (refusing (in_line f line column)) = Err (Bad (record { flaw = record { fault = fault_for f; column = column }; line = line }))
answer_of (refusing large) = Err TooLarge
answer_of (answering words rounds labels) = Ok (record { rounds = rounds; labels = length labels })

told-once : (c : Call) → verdict_for (answer_of c) ≡ verdict_of c
unfolding answer_of
told-once (refusing too_long) = refl
told-once (refusing (in_line f line column)) = ap (λ (x : A.Fault). A.refused (in_line x line column)) (fault-back f)
told-once (refusing large) = refl
told-once (answering words rounds labels) = refl

module _ (work : List ℕ) (long : work_words ≤ length work) where
  cleared-after : (c : Call) → cleared_unless (answer_of c) work ≡ work_after c work
  unfolding answer_of
  cleared-after (refusing too_long) = refl
  cleared-after (refusing (in_line f line column)) = zeroed-front work_words work long
  cleared-after (refusing large) = zeroed-front work_words work long
  cleared-after (answering words rounds labels) = zeroed-front work_words work long

  pub cleared-responded : (c : Call) (answer answer' : List ℕ) {work' : List ℕ} {r a : Result Response Refusal} → Told c answer answer' r
      → Cleared r work work' a
      → Responded c work work' answer answer' a
  cleared-responded c answer answer' {work'} {r} t h =
      let one : answer_in r ≡ answer_of c = verdict-unique (answer_in r) (answer_of c) (verdict_of c) t.0 (told-once c) in
      subst (Responded c work work' answer answer') (sym h.same)
      (record {
        settled = record {
          verdict = t.0;
          works = h.works ∙ ap (λ (x : Answer). cleared_unless x work) one ∙ cleared-after c;
          answers = t.1;
        };
        names = t.2;
      })

-- A text that was not read.
module _ (text : Text) (room : ℕ) (answer : List ℕ) where
  abbrev Untold : ReadError → Type 0
  Untold s = ◌≡◌ {A = Answer} (Err (refusal_for s)) (Err TooLarge)

  refused-told : (s : ReadError) → Refused text room s → (Untold s → ⊥) → Told (own_call text) answer answer (Err (refusal_for s))
  refused-told B.NoRoom h some = absurd (some refl)
  refused-told B.TooLong h some =
      subst (λ (c : Call). Told c answer answer (Err TooLong)) (sym (own_read text ∙ ap of_reading h)) (refl, refl, tt)
  refused-told (B.Bad b) h some =
      subst (λ (c : Call). Told c answer answer (Err (Bad b))) (sym (own_read text ∙ ap of_reading h)) (refl, refl, tt)

  pub few-refused : (s : ReadError) → Refused text room s → RespondedFew (own_call text) answer answer (Err (refusal_for s))
  few-refused s h = record { untold = λ large. refl; told = refused-told s h }

  -- where there was room for it
  pub roomy-refused : (s : ReadError) → Refused text room s → room ≡ 6144 → Told (own_call text) answer answer (Err (refusal_for s))
  roomy-refused s h roomy = refused-told s h (never s h)
    where
      never : (s : ReadError) → Refused text room s → Untold s → ⊥
      never B.NoRoom h e = h (omega arith)
      never B.TooLong h e = let z : ◌≡◌ {A = ℕ} 0 1 = cc in omega arith
      never (B.Bad b) h e = let z : ◌≡◌ {A = ℕ} 0 1 = cc in omega arith

  pub own-refused : (s : ReadError) → Refused text room s → room ≡ 6144 → RespondedOwn (own_call text) answer (Err (refusal_for s))
  own-refused s h roomy = record { under = answer; told = roomy-refused s h roomy }

-- Labels are two words each.
pub shown-length : (labels : List Label) → length (in_words (map number labels)) ≡ 2 * length labels
shown-length labels = length-in_words (map number labels) ∙ ap (λ (n : ℕ). 2 * n) (length-map labels number)

-- A description that was read, with what the rounds found.
outcome-told : (d : D.Description) (x : Outcome) (answer : List ℕ) {f : Result Listed S.TooLarge} {answer' : List ℕ}
    (r : Result Response Refusal) → f ≡ alphabet_of x → answer' ≡ answer_area x answer → answer_in r ≡ answer_for f
    → ((l : Listed) → answer_in r ≡ Ok l → names_with r ≡ filled 24 0 (map word_of d.words)) → Told (of_outcome d x) answer answer' r
outcome-told d too_large answer r e a s n = (ap verdict_for (s ∙ ap answer_for e), a, tt)
outcome-told d (listed rounds labels) answer r e a s n = (
  ap verdict_for (s ∙ ap answer_for e),
  a ∙ ap (λ (n : ℕ). in_words (map number labels) ++ drop n answer) (shown-length labels),
  n _ (s ∙ ap answer_for e),
)

outcome-works : (d : D.Description) (x : Outcome) (work : List ℕ) → cleared work ≡ work_after (of_outcome d x) work
outcome-works d too_large work = refl
outcome-works d (listed rounds labels) work = refl

-- A refusal has no names.
pub unprinted : {e : Refusal} {names : List ℕ} (l : Listed) → ◌≡◌ {A = Answer} (Err e) (Ok l) → [] ≡ names
unprinted l e = absurd (let z : ◌≡◌ {A = ℕ} 0 1 = cc in omega arith)

module _ {text : Text} {table lists listed : List ℕ} {order : Order} (h : ReadAs text table lists listed order) (r : Result Response Refusal)
    (printed : (l : Listed) → answer_in r ≡ Ok l → names_with r ≡ filled 24 0 (names_in table)) where
  abbrev outcome : Outcome
  outcome = A.answer h.given h.wanted

  own-outcome : own_call text ≡ of_outcome h.given outcome
  own-outcome = own_read text ∙ ap of_reading h.reads

  found-told : (answer : List ℕ) {f : Result Listed S.TooLarge} {answer' : List ℕ} → f ≡ alphabet_of outcome → answer' ≡ answer_area outcome answer
      → answer_in r ≡ answer_for f → Told (own_call text) answer answer' r
  found-told answer {answer'} e a s =
      let named : (l : Listed) → answer_in r ≡ Ok l → names_with r ≡ filled 24 0 (map word_of h.given.words) =
      λ l k. printed l k ∙ ap (filled 24 0) (names-held h.holds h.legal.name_count.1) in
      subst (λ (c : Call). Told c answer answer' r) (sym own-outcome) (outcome-told h.given outcome answer r e a s named)

  pub few-worked : (f : Result Listed S.TooLarge) {answer answer' : List ℕ} → AnsweredFew table lists order listed answer answer' f → answer_in r ≡ answer_for f
      → RespondedFew (own_call text) answer answer' r
  few-worked (Err e) w s = record { untold = λ large. w.unchanged refl; told = λ some. absurd (some s) }
  few-worked (Ok l) {answer} w s =
      let found = w.right h.given h.wanted h.legal h.holds h.ordered l.rounds l.labels refl in
      record {
        untold = λ large. let z : ◌≡◌ {A = ℕ} 0 1 = cc in absurd (omega arith);
        told = λ some. found-told answer found.0 found.1 s;
      }

  pub own-worked : (f : Result Listed S.TooLarge) {answer answer' : List ℕ} → AnsweredOwn table lists order listed answer answer' f → answer_in r ≡ answer_for f
      → answer_words ≤ length answer → RespondedOwn (own_call text) answer' r
  own-worked f w s wide =
      let found = w.right h.given h.wanted h.legal h.holds h.ordered wide in
      record { under = w.under; told = found-told w.under found.0 found.1 s }

  pub full-worked : (f : Result Listed S.TooLarge) {work answer work' answer' : List ℕ} → Answered table lists order listed work answer work' answer' f
      → answer_in r ≡ answer_for f → work_words ≤ length work → answer_words ≤ length answer → Responded (own_call text) work work' answer answer' r
  full-worked f {work} {answer} w s long wide =
      let found = w.right h.given h.wanted h.legal h.holds h.ordered long wide in
      let t = found-told answer found.0 found.1 s in
      let works = found.2 ∙ outcome-works h.given outcome work ∙ ap (λ (c : Call). work_after c work) (sym own-outcome) in
      record { settled = record { verdict = t.0; works = works; answers = t.1 }; names = t.2 }
