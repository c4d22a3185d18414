-- What holds after any sequence of additions from the empty tally (docs/FORMAT.md, "The tally of a model store").
-- Assumes nothing.
use mathlib.Core.Path.{◌≡◌, refl, sym, ap, ◌∙◌}
use mathlib.Core.Logic.{◌↔◌}
use mathlib.Core.Bool.{Bool, true, false, true≢false}
use mathlib.Core.List.{List, [], ◌∷◌, ◌++◌, map}
use Prim.Native.Nat.{ℕ, ◌+◌}
use native.Mathlib.Omega.{arith}
use borrow.Author.Tests.{eqb-true}
use lib.Dec.{eqb}
use Rattle.meaning.specs.Labels.{size}
use Rattle.meaning.proofs.Tests.{and-true→}
use Rattle.meaning.proofs.Bags.{size-plus}
use Rattle.std.specs.Prelude.{Result, Ok, Err}
use Rattle.tally.specs.declared.Verdict.{Verdict}
use Rattle.tally.specs.declared.Tally.{Tally}
use Rattle.tally.specs.declared.LeftOut.{LeftOut}
use Rattle.tally.specs.declared.LeftOut.TheVariants.{NoVerdict, Full}
use Rattle.tally.specs.Figures.{one, saying, all_labels, most_rounds, refusal_numbers, figures_of, refused}
use Rattle.tally.specs.Additions.{among, answer_given, refusal_given, given, after, all_fit, fits, number_of, Adds}
use Rattle.tally.specs.Sequences.{taken_with, Tallied, begun, added}
use Rattle.tally.proofs.Places.{distinct, one-among}
use Rattle.tally.proofs.Room.{after-descriptions, after-answered}
use Rattle.tally.proofs.Cases.{not-given, no_room, taken_in}
use Rattle.tally.proofs.Sums.{figures-append}

-- No two of what may become of a verdict have one number.
numbers_apart : (a b : Result (Unit {0}) LeftOut) → number_of a ≡ number_of b → a ≡ b
numbers_apart (Ok x) (Ok y) e = refl
numbers_apart (Ok x) (Err NoVerdict) e = absurd (omega (arith, e))
numbers_apart (Ok x) (Err Full) e = absurd (omega (arith, e))
numbers_apart (Err NoVerdict) (Ok y) e = absurd (omega (arith, e))
numbers_apart (Err NoVerdict) (Err NoVerdict) e = refl
numbers_apart (Err NoVerdict) (Err Full) e = absurd (omega (arith, e))
numbers_apart (Err Full) (Ok y) e = absurd (omega (arith, e))
numbers_apart (Err Full) (Err NoVerdict) e = absurd (omega (arith, e))
numbers_apart (Err Full) (Err Full) e = refl

-- Two that keep the promise say the same.
pub adds-once : (t : Tally) (v : Verdict) (t₁ t₂ : Tally) (a₁ a₂ : Result (Unit {0}) LeftOut) → Adds t v t₁ a₁ → Adds t v t₂ a₂ → (t₁ ≡ t₂) × (a₁ ≡ a₂)
adds-once t v t₁ t₂ a₁ a₂ p₁ p₂ = (p₁.0 ∙ sym p₂.0, numbers_apart a₁ a₂ (p₁.1 ∙ sym p₂.1))

-- An addition's three cases, read backwards from what became of the verdict.
data Became (t : Tally) (v : Verdict) (t' : Tally) (answer : Result (Unit {0}) LeftOut) : Type 0 where
  counted : given v ≡ true → fits (after t v) ≡ true → t' ≡ after t v → answer ≡ Ok tt → Became t v t' answer
  unknown : given v ≡ false → t' ≡ t → answer ≡ Err NoVerdict → Became t v t' answer
  overfull : given v ≡ true → fits (after t v) ≡ false → t' ≡ t → answer ≡ Err Full → Became t v t' answer

became : (t : Tally) (v : Verdict) (t' : Tally) (answer : Result (Unit {0}) LeftOut) → Adds t v t' answer → Became t v t' answer
became t v t' answer a = by-given (given v) refl
  where
    by-room : given v ≡ true → (b : Bool) → fits (after t v) ≡ b → Became t v t' answer
    by-room some true room = let same = adds-once t v t' _ answer (Ok tt) a (taken_in t v some room) in counted some room same.0 same.1
    by-room some false room = let same = adds-once t v t' _ answer (Err Full) a (no_room t v some room) in overfull some room same.0 same.1

    by-given : (b : Bool) → given v ≡ b → Became t v t' answer
    by-given true some = by-room some (fits (after t v)) refl
    by-given false none = let same = adds-once t v t' _ answer (Err NoVerdict) a (not-given t v none) in unknown none same.0 same.1

-- A refused addition changes nothing.
pub left_out : (t : Tally) (v : Verdict) (t' : Tally) (answer : Result (Unit {0}) LeftOut) → Adds t v t' answer → (number_of answer ≡ 0 → ⊥) → t' ≡ t
left_out t v t' answer a refusal =
    elim (became t v t' answer a) [
      | counted some room same so ↦ absurd (refusal (ap number_of so))
      | unknown none same so ↦ same
      | overfull some room same so ↦ same
    ]

-- 18 exactly for a verdict no call gives, also where a figure is full; 17 exactly for any other with which a figure would pass its most.
pub eighteen-first : (t : Tally) (v : Verdict) (t' : Tally) (answer : Result (Unit {0}) LeftOut) → Adds t v t' answer
    → (number_of answer ≡ 18) ↔ (given v ≡ false)
eighteen-first t v t' answer a =
    elim (became t v t' answer a) [
      | counted some room same so ↦ ((λ e. let no = sym e ∙ ap number_of so in absurd (omega (arith, no))), λ none. absurd (true≢false (sym some ∙ none)))
      | unknown none same so ↦ ((λ e. none), λ none. ap number_of so)
      | overfull some room same so ↦ ((λ e. let no = sym e ∙ ap number_of so in absurd (omega (arith, no))), λ none. absurd (true≢false (sym some ∙ none)))
    ]

pub then-seventeen : (t : Tally) (v : Verdict) (t' : Tally) (answer : Result (Unit {0}) LeftOut) → Adds t v t' answer
    → (number_of answer ≡ 17) ↔ ((given v ≡ true) × (fits (after t v) ≡ false))
then-seventeen t v t' answer a =
    elim (became t v t' answer a) [
      | counted some room same so ↦ ((λ e. let no = sym e ∙ ap number_of so in absurd (omega (arith, no))), λ full. absurd (true≢false (sym room ∙ full.1)))
      | unknown none same so ↦ ((λ e. let no = sym e ∙ ap number_of so in absurd (omega (arith, no))), λ full. absurd (true≢false (sym full.0 ∙ none)))
      | overfull some room same so ↦ ((λ e. (some, room)), λ full. ap number_of so)
    ]

-- Each figure equals the one worked out from the list of the verdicts taken in.
taken-figures : (taken : List Verdict) (v : Verdict) → after (figures_of taken) v ≡ figures_of (taken ++ (v ∷ []))
unfolding after
taken-figures taken v = sym (figures-append taken (v ∷ []))

pub worked-out : {t : Tally} {taken : List Verdict} → Tallied t taken → t ≡ figures_of taken
worked-out begun = refl
worked-out (added t t' v answer taken before a) =
    elim (became t v t' answer a) [
      | counted some room same in-it ↦
          same ∙ ap (λ (u : Tally). after u v) (worked-out before) ∙ taken-figures taken v
          ∙ ap (λ (e : Result (Unit {0}) LeftOut). figures_of (taken_with e v taken)) (sym in-it)
      | unknown none same so ↦ same ∙ worked-out before ∙ ap (λ (e : Result (Unit {0}) LeftOut). figures_of (taken_with e v taken)) (sym so)
      | overfull some room same so ↦ same ∙ worked-out before ∙ ap (λ (e : Result (Unit {0}) LeftOut). figures_of (taken_with e v taken)) (sym so)
    ]

-- Answered plus refused is the number of descriptions.
known-once : (v : Verdict) → given v ≡ true → one (eqb v.reason 0) + one (among v.reason refusal_numbers) ≡ 1
unfolding given refusal_given among
known-once v g = by_number (eqb v.reason 0) refl g
  where
    by_number : (b : Bool) → eqb v.reason 0 ≡ b → elim b [ true ↦ answer_given v | false ↦ refusal_given v ] ≡ true
        → one b + one (among v.reason refusal_numbers) ≡ 1
    by_number true e g = ap (λ (n : ℕ). 1 + one (among n refusal_numbers)) (eqb-true v.reason 0 e)
    by_number false e g = ap (λ (b : Bool). 0 + one b) (and-true→ (among v.reason refusal_numbers) _ g).0

after-refused : (t : Tally) (v : Verdict) → refused (after t v) ≡ refused t + one (among v.reason refusal_numbers)
unfolding after distinct among
after-refused t v =
    size-plus t.refusals (map (λ n. saying n (v ∷ [])) refusal_numbers) ∙ ap (λ (n : ℕ). refused t + n) (one-among v refusal_numbers refl)

pub answered-or-refused : {t : Tally} {taken : List Verdict} → Tallied t taken → t.answered + refused t ≡ t.descriptions
unfolding size saying
answered-or-refused begun = refl
answered-or-refused (added t t' v answer taken before a) =
    elim (became t v t' answer a) [
      | counted some room same so ↦
          let all = answered-or-refused before in
          ap (λ (u : Tally). u.answered + refused u) same
          ∙ omega (arith, all, after-answered t v, after-refused t v, known-once v some, after-descriptions t v)
          ∙ sym (ap (λ (u : Tally). u.descriptions) same)
      | unknown none same so ↦ rw same (answered-or-refused before)
      | overfull some room same so ↦ rw same (answered-or-refused before)
    ]

-- No figure is ever past its most.
pub never-past : {t : Tally} {taken : List Verdict} → Tallied t taken → fits t ≡ true
unfolding fits all_fit saying all_labels most_rounds
never-past begun = refl
never-past (added t t' v answer taken before a) =
    elim (became t v t' answer a) [
      | counted some room same so ↦ ap fits same ∙ room
      | unknown none same so ↦ ap fits same ∙ never-past before
      | overfull some room same so ↦ ap fits same ∙ never-past before
    ]
