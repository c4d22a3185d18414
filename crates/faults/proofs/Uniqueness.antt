-- Any two results that meet a promise about faults are equal.
-- Assumes nothing.
use mathlib.Core.Path.{◌≡◌, refl, sym, ap, ◌∙◌}
use Prim.Native.Nat.{ℕ}
use Rattle.std.specs.Prelude.{Option, Some, None}
use Rattle.meaning.proofs.Alike.{alike, alike-through}
use Rattle.labels.specs.declared.Label.{Label}
use Rattle.grammar.specs.Faults.{Found, fine, fault}
use Rattle.grammar.specs.Reading.{Flaw}
use Rattle.faults.specs.CodedFaults.{fault_of, found_of, flaw_of, fault_for, flaw_for}
use Rattle.faults.specs.Tallies.{Counted}
use Rattle.faults.specs.declared.Fault as F
use Rattle.faults.specs.declared.Fault.TheVariants.{Form, Name, Range, Amount}
use Rattle.faults.specs.declared.FaultAt.{FaultAt}
use Rattle.faults.specs.declared.Flaw as C
use Rattle.faults.specs.declared.Tally.{Tally}

found_back : Found → Option FaultAt
found_back fine = None
found_back (fault f from) = Some (record { fault = fault_for f; from = from })

pub fault-back : (f : F.Fault) → fault_for (fault_of f) ≡ f
fault-back Form = refl
fault-back Name = refl
fault-back Range = refl
fault-back Amount = refl

found_back_lem : (f : Option FaultAt) → found_back (found_of f) ≡ f
unfolding found_back
found_back_lem None = refl
found_back_lem (Some f) = ap (λ (g : F.Fault). Some (record { fault = g; from = f.from })) (fault-back f.fault)

pub found-unique : (f g : Option FaultAt) (due : Found) → found_of f ≡ due → found_of g ≡ due → f ≡ g
found-unique f g due p q = alike-through (λ (x : Option FaultAt). found_of x) found_back found_back_lem p q

same-tally : {f g : Option FaultAt} {a b : Label} {m n : ℕ} → f ≡ g → a ≡ b → m ≡ n
    → ◌≡◌ {A = Tally} (record { fault = f; floor = a; total = m }) (record { fault = g; floor = b; total = n })
same-tally p q r = rw (p, q, r)

pub flaw-back : (f : C.Flaw) → flaw_for (flaw_of f) ≡ f
flaw-back f = ap (λ (g : F.Fault). record { fault = g; column = f.column }) (fault-back f.fault)

pub flaw-unique : (f g : C.Flaw) (due : Flaw) → flaw_of f ≡ due → flaw_of g ≡ due → f ≡ g
flaw-unique f g due p q = alike-through (λ (x : C.Flaw). flaw_of x) (λ (x : Flaw). flaw_for x) flaw-back p q

-- the flaw that a promise names
pub flaw-is : (f : C.Flaw) (due : Flaw) → flaw_of f ≡ due → f ≡ flaw_for due
flaw-is f due p = sym (flaw-back f) ∙ ap (λ (x : Flaw). flaw_for x) p

pub counted-unique : {t r s : Tally} {found : Found} {key weight limit from : ℕ}
    → Counted t found key weight limit from r
    → Counted t found key weight limit from s
    → r ≡ s
counted-unique {t} {r} {s} p q =
    same-tally (found-unique r.fault s.fault _ p.faults q.faults) (alike p.floors q.floors) (alike p.totals q.totals)
