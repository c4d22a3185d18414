-- Of two findings that decide, the worse decides the faults of both, if those of the first lie further left.
-- Assumes nothing.
use mathlib.Core.Path.{◌≡◌, refl, sym, ap, subst, ◌∙◌}
use mathlib.Core.Logic.{◌↔◌, inl, inr}
use mathlib.Core.Bool.{Bool, true, false, not}
use Prim.Native.Nat.{ℕ, ◌≤◌, ◌<◌}
use native.Mathlib.Omega.{arith}
use lib.Dec.{T, leb, ltb, eqb, leb→le, nleb→lt, ltb→lt, nltb→le}
use Rattle.meaning.specs.Answers.{Fault, form, name, range, amount, fault_number}
use Rattle.grammar.specs.Faults.{Found, fine, fault, smaller, worse, unless}
use Rattle.columns.specs.Leftmost.{Faults, Leads, Decides, none, ◌or◌, FaultIf, indeed}

-- Faults with one number are one fault.
fault_of : ℕ → Fault
fault_of n = elim (eqb n 2) [ true ↦ form | false ↦ elim (eqb n 3) [ true ↦ name | false ↦ elim (eqb n 4) [ true ↦ range | false ↦ amount ] ] ]

fault-of : (x : Fault) → fault_of (fault_number x) ≡ x
unfolding fault_of
fault-of form = refl
fault-of name = refl
fault-of range = refl
fault-of amount = refl

number_same : (x y : Fault) → fault_number x ≡ fault_number y → x ≡ y
number_same x y e = sym (fault-of x) ∙ ap fault_of e ∙ fault-of y

-- Each of some faults is one of others.
abbrev pub Among : (some more : Faults) → Type 0
Among some more = (x : Fault) (p : ℕ) → some x p → more x p

among-or : {some more which : Faults} → Among some which → Among more which → Among (some or more) which
among-or h k x p (inl a) = h x p a
among-or h k x p (inr a) = k x p a

-- What leads.
leads-least : (x : Fault) (p : ℕ) (y : Fault) (q : ℕ) → Leads x p y q → fault_number x ≤ fault_number y
leads-least x p y q (inl h) = omega arith
leads-least x p y q (inr h) = let e = ap fault_number h.0 in omega arith

least-leads : (x : Fault) (p : ℕ) (y : Fault) (q : ℕ) → fault_number x ≤ fault_number y → (x ≡ y → q ≤ p) → Leads x p y q
least-leads x p y q l h = let m = fault_number x in let n = fault_number y in by (ltb m n) (ltb→lt m n) (nltb→le m n)
  where
    by : (b : Bool) → (T b → fault_number x < fault_number y) → (T (not b) → fault_number y ≤ fault_number x) → Leads x p y q
    by true i j = inl (i tt)
    by false i j = let k = j tt in let e = number_same x y (omega arith) in inr (e, h e)

-- Of two findings.
module _ {some more : Faults} (before : (x : Fault) (p q : ℕ) → some x p → more x q → q ≤ p) where
  smaller-decides : (x : Fault) (p : ℕ) (y : Fault) (q : ℕ) → Decides some (fault x p) → Decides more (fault y q)
      → (b : Bool) → (T b → fault_number x ≤ fault_number y) → (T (not b) → fault_number y < fault_number x)
      → Decides (some or more) (smaller b (fault x p) (fault y q))
  smaller-decides x p y q h k true i j =
      let m = i tt in (
        inl h.0,
        among-or h.1 (λ z r a.
            let l = leads-least y q z r (k.1 z r a) in
            least-leads x p z r (omega arith) (λ e. before x p r h.0 (subst (λ z. more z r) (sym e) a))),
      )
  smaller-decides x p y q h k false i j =
      let m = j tt in
      (inr k.0, among-or (λ z r a. let l = leads-least x p z r (h.1 z r a) in inl (omega arith)) k.1)

  worse-decides : (f g : Found) → Decides some f → Decides more g → Decides (some or more) (worse f g)
  worse-decides fine fine h k = among-or {which = none} h k
  worse-decides fine (fault y q) h k = (inr k.0, among-or (λ z r a. absurd (h z r a)) k.1)
  worse-decides (fault x p) fine h k = (inl h.0, among-or h.1 (λ z r a. absurd (k z r a)))
  worse-decides (fault x p) (fault y q) h k =
      let m = fault_number x in
      let n = fault_number y in
      smaller-decides x p y q h k (leb m n) (leb→le m n) (nleb→lt m n)

-- What is found decides, and every fault lies between two places, which differ from fault to fault.
abbrev pub Bounds : Type 0
Bounds = Fault → ℕ

infix 40 ◌down_to◌
abbrev pub ◌down_to◌ : Bounds → Bounds → Type 0
◌down_to◌ upper lower = (x : Fault) → lower x ≤ upper x

pub record Told (faults : Faults) (found : Found) (upper lower : Bounds) : Type 0 where
  pub decides : Decides faults found
  pub within : Among faults (λ x p. (lower x ≤ p) × (p ≤ upper x))
  pub falls : upper down_to lower

decides-same : {some more : Faults} (f : Found) → ((x : Fault) (p : ℕ) → some x p ↔ more x p) → Decides some f → Decides more f
decides-same fine e h = λ y q i. h y q ((e y q).1 i)
decides-same (fault x p) e h = ((e x p).0 h.0, λ y q i. h.1 y q ((e y q).1 i))

pub told_same : {some more : Faults} (f : Found) {upper lower : Bounds} → ((x : Fault) (p : ℕ) → some x p ↔ more x p)
    → Told some f upper lower → Told more f upper lower
told_same f e h = record { decides = decides-same f e h.decides; within = λ x p a. h.within x p ((e x p).1 a); falls = h.falls }

pub told_wider : {faults : Faults} {found : Found} {top upper lower bottom : Bounds} → top down_to upper → lower down_to bottom
    → Told faults found upper lower → Told faults found top bottom
told_wider {top} {upper} {lower} {bottom} h k i =
    record {
      decides = i.decides;
      within = λ x p a. let j = i.within x p a in let l = h x in let m = k x in (omega arith, omega arith);
      falls = λ x. let l = h x in let m = k x in let n = i.falls x in omega arith;
    }

pub told-worse : {some more : Faults} (f g : Found) {upper middle lower : Bounds} → Told some f upper middle → Told more g middle lower
    → Told (some or more) (worse f g) upper lower
told-worse f g {upper} {middle} {lower} h k =
    record {
      decides = worse-decides (λ x p q a b. let i = h.within x p a in let j = k.within x q b in omega arith) f g h.decides k.decides;
      within =
          among-or
          (λ x p a. let i = h.within x p a in let l = k.falls x in (omega arith, omega arith))
          (λ x p a. let i = k.within x p a in let l = h.falls x in (omega arith, omega arith));
      falls = λ x. let l = h.falls x in let m = k.falls x in omega arith;
    }

-- No fault, and one that is there unless a test is passed.
pub told-fine : {bounds : Bounds} → Told none fine bounds bounds
told-fine = record { decides = λ y q h. h; within = λ x p h. absurd h; falls = λ x. omega arith }

module _ {P : Type 0} (bounds : Bounds) (x : Fault) where
  one-among : (which : Faults) → (P → which x (bounds x)) → Among (FaultIf P x (bounds x)) which
  one-among which h y q (indeed a) = h a

  unless-decides : (b : Bool) → (T b → P → ⊥) → (T (not b) → P) → Decides (FaultIf P x (bounds x)) (unless b x (bounds x))
  unless-decides true f g = one-among none (f tt)
  unless-decides false f g = (indeed (g tt), one-among (Leads x (bounds x)) (λ a. inr (refl, omega arith)))

  pub told-unless : (b : Bool) → (T b → P → ⊥) → (T (not b) → P) → Told (FaultIf P x (bounds x)) (unless b x (bounds x)) bounds bounds
  told-unless b f g =
      record {
        decides = unless-decides b f g;
        within = one-among (λ y p. (bounds y ≤ p) × (p ≤ bounds y)) (λ a. (omega arith, omega arith));
        falls = λ y. omega arith;
      }

pub told-unless-lt : (bounds : Bounds) (x : Fault) (m n : ℕ) → Told (FaultIf (n ≤ m) x (bounds x)) (unless (ltb m n) x (bounds x)) bounds bounds
told-unless-lt bounds x m n = told-unless bounds x (ltb m n) (λ h l. let k = ltb→lt m n h in omega arith) (nltb→le m n)

pub told-unless-le : (bounds : Bounds) (x : Fault) (m n : ℕ) → Told (FaultIf (n < m) x (bounds x)) (unless (leb m n) x (bounds x)) bounds bounds
told-unless-le bounds x m n = told-unless bounds x (leb m n) (λ h l. let k = leb→le m n h in omega arith) (nleb→lt m n)
