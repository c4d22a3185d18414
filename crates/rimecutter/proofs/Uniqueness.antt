-- Any two results that meet the promise of a call are equal.
-- Assumes nothing.
use Rattle.std.specs.Prelude.{Ok, Err}
use mathlib.Core.Path.{◌≡◌, refl}
use mathlib.Core.List.{List}
use Prim.Native.Nat.{ℕ, zero, suc}
use Rattle.meaning.specs.Answers.{fault_number, in_line, Verdict, refused}
use Rattle.meaning.proofs.Alike.{alike, alike-through}
use Rattle.faults.specs.CodedFaults.{fault_of}
use Rattle.faults.specs.declared.Fault.{Fault}
use Rattle.faults.specs.declared.Fault.TheVariants.{Form, Name, Range, Amount}
use Rattle.rimecutter.specs.declared.Refusal.TheVariants.{TooLong, Bad, TooLarge}
use Rattle.rimecutter.specs.Calls.{Call, verdict_of}
use Rattle.rimecutter.specs.Answers.{Answer, verdict_for, Settled}

-- A bad line, by its fault.
abbrev bad_from : Fault → Verdict → Answer
bad_from f v = Err (Bad (record { flaw = record { fault = f; column = v.column }; line = v.line }))

-- The case of an answer from its number.
answer_from : ℕ → Verdict → Answer
answer_from zero v = Ok (record { rounds = v.rounds; labels = v.labels })
answer_from (suc zero) v = Err TooLong
answer_from (suc (suc zero)) v = bad_from Form v
answer_from (suc (suc (suc zero))) v = bad_from Name v
answer_from (suc (suc (suc (suc zero)))) v = bad_from Range v
answer_from (suc (suc (suc (suc (suc zero))))) v = bad_from Amount v
answer_from (suc (suc (suc (suc (suc (suc n)))))) v = Err TooLarge

bad-back : (f : Fault) (line column : ℕ) → answer_from (fault_number (fault_of f)) (refused (in_line (fault_of f) line column))
    ≡ Err (Bad (record { flaw = record { fault = f; column = column }; line = line }))
unfolding answer_from
bad-back Form line column = refl
bad-back Name line column = refl
bad-back Range line column = refl
bad-back Amount line column = refl

answer_back : (a : Answer) → answer_from (verdict_for a).reason (verdict_for a) ≡ a
unfolding answer_from
answer_back (Ok l) = refl
answer_back (Err TooLong) = refl
answer_back (Err (Bad b)) = bad-back b.flaw.fault b.line b.flaw.column
answer_back (Err TooLarge) = refl

-- A verdict is that of one answer only.
pub verdict-unique : (a b : Answer) (v : Verdict) → verdict_for a ≡ v → verdict_for b ≡ v → a ≡ b
verdict-unique a b v p q = alike-through (λ (x : Answer). verdict_for x) (λ (x : Verdict). answer_from x.reason x) answer_back p q

module _ (c : Call) (work answer : List ℕ) (work₁ answer₁ work₂ answer₂ : List ℕ) (r₁ r₂ : Answer) where
  pub settled-unique : Settled c work work₁ answer answer₁ r₁ → Settled c work work₂ answer answer₂ r₂ → (r₁ ≡ r₂) × (work₁ ≡ work₂) × (answer₁ ≡ answer₂)
  settled-unique p q =
      (verdict-unique r₁ r₂ (verdict_of c) p.verdict q.verdict, alike p.works q.works, alike p.answers q.answers)
