-- Beside the demands: exact lists, over what the library's call promises (`Settled`), as the demands are. What they say is defined in
-- specs/Exact.antt.
-- Assumes nothing.
use mathlib.Core.Path.{◌≡◌, subst}
use mathlib.Core.List.{List}
use Prim.Native.Nat.{ℕ}
use Rattle.meaning.specs.Bytes.{Text}
use Rattle.meaning.specs.Labels.{Label}
use Rattle.meaning.specs.Answers.{Lists, Answers}
use Rattle.meaning.proofs.Answers.{answer-right}
use Rattle.meaning.proofs.Exact as M
use Rattle.grammar.specs.Exact.{ExactText}
use Rattle.grammar.proofs.Acceptance.{accepted→}
use Rattle.rimecutter.specs.Demands.{Made, verdict_given, Called, Holds, SaysOk}
use Rattle.rimecutter.specs.Exact.{Exactly, ExactListing, ExactPrint}
use Rattle.rimecutter.proofs.DemandSteps.{answered-lists, printed-answer}
use Rattle.rimecutter.proofs.Demands.{answered}

lists-exactly : {text : Text} (x : ExactText text) {rounds : ℕ} {labels : List Label} → Lists x.given x.order rounds labels
    → Exactly x.given x.order labels
lists-exactly {text} x {rounds} {labels} =
    M.exact-list x.given x.order rounds labels (accepted→ text x.given x.order x.reads).1 x.kinds

-- Where every term of a text's description is of the exact kinds and the call is answered, exactly those labels are listed that are met
-- on finite runs and that the order allows.
pub exact-list : (m : Made) (x : ExactText m.text)
    → (verdict_given m).reason ≡ 0
    → ExactListing m x.given x.order
exact-list m x zero =
    let a = answered m zero in
    let lists = answered-lists m x.reads a in
    record {
      rounds = a.rounds;
      labels = a.labels;
      rising = lists.rising;
      exactly = lists-exactly x lists;
      says = a.says;
      answers = a.answers;
    }

-- The same of a call for C, over what it prints.
pub exact-list-text : (c : Called) (x : ExactText c.text)
    → Holds c
    → SaysOk c.area'
    → ExactPrint c x.given x.order
exact-list-text c x holds ok =
    let p = printed-answer c x.reads holds ok in
    let lists : Lists x.given x.order p.rounds p.labels = subst (Answers x.given x.order) p.is (answer-right x.given x.order) in
    record { rounds = p.rounds; labels = p.labels; rising = lists.rising; exactly = lists-exactly x lists; shown = p.shown }
