-- What the computed tables say of each of their rows.
-- Assumes nothing.
use mathlib.Core.Path.{◌≡◌, sym, ap₂, subst}
use mathlib.Core.Logic.{inl, inr}
use mathlib.Core.List.{List, [], ◌∷◌}
use Prim.Native.Nat.{ℕ}
use lib.Dec.{T, eqb, eqb→eq}
use Rattle.meaning.specs.Labels.{Label}
use Rattle.meaning.specs.Sets.{◌∈◌}
use Rattle.meaning.specs.Legal.{Legal}
use Rattle.meaning.specs.Answers.{Outcome, too_large, listed, Lists, Answers, same_labels, answer}
use Rattle.meaning.proofs.Tests.{and_left, and_right}
use Rattle.meaning.proofs.Legality.{legal_test, legal-tested}
use Rattle.meaning.proofs.Alphabets.{Case, table, unseen_cases, exact_cases, says, holds, all_hold, computed}
use Rattle.meaning.proofs.Answers.{same_labels→, answer-right}

pub record Holds (c : Case) : Type 0 where
  pub legal : Legal c.given c.order
  pub answered : answer c.given c.order ≡ listed c.rounds c.labels

-- so what it gives is listed
pub lists : {c : Case} → Holds c → Lists c.given c.order c.rounds c.labels
lists {c} h = subst (Answers c.given c.order) h.answered (answer-right c.given c.order)

said : (rounds : ℕ) (labels : List Label) (x : Outcome) → T (says rounds labels x) → x ≡ listed rounds labels
unfolding says
said rounds labels too_large t = absurd t
said rounds labels (listed r ls) t =
    ap₂ {C = Outcome} listed (eqb→eq r rounds (and_left (eqb r rounds) (same_labels ls labels) t))
    (same_labels→ ls labels (and_right (eqb r rounds) (same_labels ls labels) t))

holds→ : (c : Case) → T (holds c) → Holds c
unfolding holds
holds→ c t =
    let test = says c.rounds c.labels (answer c.given c.order) in
    record {
      legal = (legal-tested c.given c.order).0 (and_left (legal_test c.given c.order) test t);
      answered = said c.rounds c.labels (answer c.given c.order) (and_right (legal_test c.given c.order) test t);
    }

each_holds : (cs : List Case) → T (all_hold cs) → (c : Case) → c ∈ cs → Holds c
unfolding all_hold
each_holds (b ∷ cs) t c (inl e) = subst Holds (sym e) (holds→ b (and_left (holds b) (all_hold cs) t))
each_holds [] t c x'' = elim x'' [ ]
each_holds (b ∷ cs) t c (inr m) = each_holds cs (and_right (holds b) (all_hold cs) t) c m

pub cases : (c : Case) → c ∈ table → Holds c
cases = each_holds table computed.0

pub unseen-holds : (c : Case) → c ∈ unseen_cases → Holds c
unseen-holds = each_holds unseen_cases computed.1

pub exact-holds : (c : Case) → c ∈ exact_cases → Holds c
exact-holds = each_holds exact_cases computed.2
