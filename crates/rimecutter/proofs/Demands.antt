-- The three demands of the order, over what the library's call promises (`Settled`) and not over anything inside it. What they say is
-- defined in specs/Demands.antt and specs/Refusals.antt, and the steps are in DemandSteps.antt.
-- Assumes nothing.
use mathlib.Core.Path.{◌≡◌, refl, sym, subst, ◌∙◌}
use mathlib.Core.Logic.{◌⊎◌, inl, inr, ◌↔◌}
use Prim.Native.Nat.{ℕ}
use native.Mathlib.Omega.{arith}
use lib.ListN.{length}
use Rattle.std.specs.Prelude.{Option, unwrap_or}
use Rattle.meaning.specs.Bytes.{Text}
use Rattle.meaning.specs.Descriptions.{Description, Order}
use Rattle.meaning.specs.Answers as A
use Rattle.meaning.specs.Answers.{Refusal}
use Rattle.meaning.specs.Widening.{Widens}
use Rattle.meaning.proofs.Answers.{reason-eq}
use Rattle.grammar.specs.Areas.{WrittenOrNone}
use Rattle.grammar.specs.Reading.{read, read_text}
use Rattle.grammar.proofs.Areas.{written→printed}
use Rattle.rimecutter.specs.Calls.{own_call, text_of}
use Rattle.rimecutter.specs.Refusals.{Roomy, Large}
use Rattle.rimecutter.specs.Demands.{Made, verdict_given, DueOf, Answered, RefusedWith, Refused, Right, Safe, Called, Holds, number_of, SaysOk, SafeText}
use Rattle.rimecutter.proofs.DemandSteps.{due→, refused-by, answered-or-refused, refusal-unique, no_answer}
use Rattle.rimecutter.proofs.DemandSteps.{answered-roomy, read→right, seven-large, widens→safe, safe-texts, no_room}

-- Demand 1. Every input gets an answer or a refusal that was due, never both.
pub demand-1 : (m : Made) → Answered m ⊎ Refused m
demand-1 m = answered-or-refused m

pub not-both : (m : Made)
    → Answered m
    → Refused m
    → ⊥
not-both m a r = no_answer r.refusal (reason-eq (sym r.refused.says ∙ a.says))

-- The other way: a refusal that is due is given, with its number, line and column, and what each area holds is fixed.
pub due-refused : (m : Made) (r : Refusal)
    → DueOf m r
    → RefusedWith m r
due-refused m r due = refused-by m (due→ m.text (length m.work) (length m.answer) r due)

-- So number, line and column tell which refusal was due, and no two are due at once.
pub refused-exactly : (m : Made) (r : Refusal) → (verdict_given m ≡ A.refused r) ↔ DueOf m r
refused-exactly m r = (given (demand-1 m), λ due. (due-refused m r due).says)
  where
    given : Answered m ⊎ Refused m → verdict_given m ≡ A.refused r → DueOf m r
    given (inl a) e = absurd (no_answer r (reason-eq (sym e ∙ a.says)))
    given (inr x) e = subst (DueOf m) {x = x.refusal} {y = r} (refusal-unique (sym x.refused.says) (sym e)) x.due

pub due-once : (m : Made) (r r' : Refusal)
    → DueOf m r
    → DueOf m r'
    → r ≡ r'
due-once m r r' due due' = refusal-unique (sym (due-refused m r due).says) (sym (due-refused m r' due').says)

-- Refusal 8, in the C call alone: 0 is returned exactly if it is given, and the area is then as it was.
pub refusal-8 : (c : Called) → ((c.size ≡ 0) ↔ (number_of c ≡ 8)) × (number_of c ≡ 8 → c.area' ≡ c.area)
refusal-8 c = no_room c

-- Number 0 is given of an answer alone.
pub answered : (m : Made)
    → (verdict_given m).reason ≡ 0
    → Answered m
answered m zero = elim (demand-1 m) [
  | inl a ↦ a
  | inr x ↦ absurd (no_answer x.refusal (sym (reason-eq x.refused.says) ∙ zero))
]

-- Demand 2. Of a well-formed description "too large" is said exactly when its least sets pass a limit, and otherwise exactly those labels
-- of the root's set are listed that the order allows; of no other description is "too large" said.
pub demand-2 : (m : Made) {d : Description} {o : Order}
    → read_text m.text ≡ read d o
    → Roomy (length m.work) (length m.answer)
    → Right m d o
demand-2 m reads roomy = read→right m reads roomy

pub large-only : (m : Made)
    → (verdict_given m).reason ≡ 7
    → Large m.text
large-only m e = elim (demand-1 m) [
  | inl a ↦ absurd (omega (arith, e, reason-eq a.says))
  | inr x ↦ seven-large m x.refusal x.due (sym (reason-eq x.refused.says) ∙ e)
]

-- Demand 3. If a widened description is answered, so is the first, and every label on any finite run of the first that its order allows
-- is listed by the widened one. Both calls have areas of the same lengths.
pub demand-3 : (m m' : Made) {d d' : Description} {o o' : Order}
    → read_text m.text ≡ read d o
    → read_text m'.text ≡ read d' o'
    → Widens d o d' o'
    → length m.work ≡ length m'.work
    → length m.answer ≡ length m'.answer
    → (verdict_given m').reason ≡ 0
    → Safe m m' d o
demand-3 m m' reads reads' w works answers zero =
    let a = answered m' zero in
    widens→safe m m' reads reads' w (rw (works, answers) (answered-roomy m' a)) a

-- The same of two calls for C, over what they print, with text areas that hold either text.
pub demand-3-text : (c c' : Called) {d d' : Description} {o o' : Order}
    → read_text c.text ≡ read d o
    → read_text c'.text ≡ read d' o'
    → Holds c
    → Holds c'
    → Widens d o d' o'
    → SaysOk c'.area'
    → SafeText c c' d o d'
demand-3-text c c' reads reads' holds holds' w ok = safe-texts c c' reads reads' holds holds' w ok

-- And of the calls that the program makes: what `alphabet_text` promises is what a call for C does, with 0 in the place of None.
abbrev pub called-for : (text : Text) {area area' : Text} {o : Option ℕ}
    → WrittenOrNone (text_of (own_call text)) area area' o
    → Called
called-for text {area} {area'} {o} written =
    record { text = text; area = area; area' = area'; size = unwrap_or o 0; kept = written→printed written refl }
