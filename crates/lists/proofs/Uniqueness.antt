-- Any two results that meet a promise about an entry or a list are equal, where the labels in them have nothing above the names' bits of
-- their lower words; and which words of the store are settled.
-- Assumes nothing.
use mathlib.Core.Path.{◌≡◌, refl, sym, ap, ◌∙◌}
use mathlib.Core.List.{List}
use Prim.Native.Nat.{ℕ, ◌^◌, ◌<◌}
use lib.ListN.{length}
use Rattle.meaning.specs.Bytes.{Text}
use Rattle.meaning.proofs.Alike.{alike}
use Rattle.grammar.specs.Text.{Past, past}
use Rattle.labels.specs.declared.Label.{Label}
use Rattle.labels.specs.Packing.{code, packed}
use Rattle.labels.proofs.Codes.{packed-code}
use Rattle.faults.specs.declared.FaultAt.{FaultAt}
use Rattle.faults.proofs.Uniqueness.{found-unique}
use Rattle.std.specs.Prelude.{Option}
use Rattle.words.specs.Steps.{Reading}
use Rattle.words.proofs.Uniqueness.{GoodStep, steps-unique}
use Rattle.lists.specs.Tallies.{Said}
use Rattle.lists.specs.Entries.{said_of, Says}
use Rattle.lists.specs.Lists.{ListRead}
use Rattle.lists.specs.declared.Said as C
use Rattle.lists.specs.declared.ListKind.{ListKind}

same-said : {f g : Option FaultAt} {a b : Label} {m n : ℕ} → f ≡ g → a ≡ b → m ≡ n
    → ◌≡◌ {A = C.Said} (record { fault = f; first = a; second = m }) (record { fault = g; first = b; second = n })
same-said p q r = rw (p, q, r)

-- (those bits are passed over)
abbrev pub Bare : Reading C.Said → Type 0
Bare = GoodStep (λ (e : C.Said). e.first.lower < 2 ^ 60)

same-label : {a b : Label} → a.lower < 2 ^ 60 → b.lower < 2 ^ 60 → code a ≡ code b → a ≡ b
same-label {a} {b} l m e = sym (packed-code a l) ∙ ap packed e ∙ packed-code b m

said-back : (from : ℕ) (d e : C.Said) → d.first.lower < 2 ^ 60 → e.first.lower < 2 ^ 60 → said_of from d ≡ said_of from e → d ≡ e
said-back from d e l m h =
    same-said (found-unique d.fault e.fault _ (ap (λ (s : Said). s.found) h) refl) (same-label l m (ap (λ (s : Said). s.first) h))
    (ap (λ (s : Said). s.second) h)

module _ {line : Text} where
  pub said-unique : {due : Past Said} {r s : Reading C.Said} → Says line r due → Says line s due → Bare r → Bare s → r ≡ s
  said-unique p q a b = steps-unique (said_of (length line)) (λ (e : C.Said). e.first.lower < 2 ^ 60) (said-back (length line)) line a b p q

-- the store is settled where the list is read
pub list-unique : {line : Text} {kind : ListKind} {due : Past (List Said)} {before after₁ after₂ : List ℕ} {r s : Reading C.Said}
    → ListRead kind line due before after₁ r
    → ListRead kind line due before after₂ s
    → (Bare r → Bare s → r ≡ s) × ((es : List Said) (p : Text) → past es p ≡ due → after₁ ≡ after₂)
list-unique p q = (said-unique p.read q.read, λ es t h. alike (p.stored es t h) (q.stored es t h))
