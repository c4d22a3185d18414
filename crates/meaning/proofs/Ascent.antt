-- Lists that ascend in a strict order: settled by their members, and no member twice. Proved once, for any strict order.
-- And how many members a list without repetition can have.
-- Assumes nothing.
use mathlib.Core.Path.{◌≡◌, refl, sym, ap, ap₂, subst, ◌∙◌}
use mathlib.Core.Logic.{◌⊎◌, inl, inr}
use mathlib.Core.List.{List, [], ◌∷◌, map}
use Prim.Native.Nat.{suc, ◌≤◌, ◌<◌, zero-le, suc-le-suc}
use native.Mathlib.Nat.{le_of_suc-le-suc, not-suc-le-zero, lt_trans, lt_irrefl}
use lib.ListN.{length}
use Rattle.meaning.specs.Labels.{Label, number}
use Rattle.meaning.specs.Sets.{◌∈◌, Above, Rising}
use Rattle.meaning.specs.Limits.{Once}

abbrev pub Within : List Label → List Label → Type 0
Within s t = (a : Label) → a ∈ s → a ∈ t

abbrev pub Sorted : (Label → Label → Type 0) → List Label → Type 0
Sorted L [] = Unit {0}
Sorted L (a ∷ s) = ((b : Label) → b ∈ s → L a b) × Sorted L s

module _ (L : Label → Label → Type 0) (irrefl : (a : Label) → L a a → ⊥) (trans : (a b c : Label) → L a b → L b c → L a c) where
  pub sorted-once : (s : List Label) → Sorted L s → Once s
  sorted-once [] h = tt
  sorted-once (a ∷ s) h = (λ m. irrefl a (h.0 a m), sorted-once s h.1)

  -- the heads of two sorted lists that lie within each other
  heads : (a b : Label) (s t : List Label) → Sorted L (a ∷ s) → Sorted L (b ∷ t) → a ∈ (b ∷ t) → b ∈ (a ∷ s) → a ≡ b
  heads a b s t p q (inl e) m = e
  heads a b s t p q (inr k) (inl e) = sym e
  heads a b s t p q (inr k) (inr m) = absurd (irrefl a (trans a b a (p.0 b m) (q.0 a k)))

  tails : (a b : Label) (s t : List Label) → Sorted L (a ∷ s) → a ≡ b → Within (a ∷ s) (b ∷ t) → Within s t
  tails a b s t p e w c m = pick (w c (inr m))
    where
      pick : c ∈ (b ∷ t) → c ∈ t
      pick (inl k) = absurd (irrefl a (subst (λ (x : Label). L a x) (k ∙ sym e) (p.0 c m)))
      pick (inr k) = k

  pub sorted-unique : (s t : List Label) → Sorted L s → Sorted L t → Within s t → Within t s → s ≡ t
  sorted-unique [] [] p q w v = refl
  sorted-unique [] (b ∷ t) p q w v = absurd (v b (inl refl))
  sorted-unique (a ∷ s) [] p q w v = absurd (w a (inl refl))
  sorted-unique (a ∷ s) (b ∷ t) p q w v =
      let e : a ≡ b = heads a b s t p q (w a (inl refl)) (v b (inl refl)) in
      ap₂ {C = List Label} ◌∷◌ e (sorted-unique s t p.1 q.1 (tails a b s t p e w) (tails b a t s q (sym e) v))

-- Strictly ascending numbers are sorted by number.
rising-above : (a : Label) (s : List Label) → Above (number a) (map number s) → Rising (map number s) → (b : Label) → b ∈ s → number a < number b
rising-above a (c ∷ s) h r b (inl e) = subst (λ (x : Label). number a < number x) (sym e) h
rising-above a [] h r b x3 = elim x3 [ ]
rising-above a (c ∷ s) h r b (inr m) = lt_trans h (rising-above c s r.0 r.1 b m)

abbrev pub NumberLess : Label → Label → Type 0
NumberLess a b = number a < number b

pub rising-sorted : (s : List Label) → Rising (map number s) → Sorted NumberLess s
rising-sorted [] r = tt
rising-sorted (a ∷ s) r = (rising-above a s r.0 r.1, rising-sorted s r.1)

sorted-above : (a : Label) (s : List Label) → ((b : Label) → b ∈ s → NumberLess a b) → Above (number a) (map number s)
sorted-above a [] h = tt
sorted-above a (b ∷ s) h = h b (inl refl)

pub sorted-rising : (s : List Label) → Sorted NumberLess s → Rising (map number s)
sorted-rising [] h = tt
sorted-rising (a ∷ s) h = (sorted-above a s h.0, sorted-rising s h.1)

pub rising-unique : (s t : List Label) → Rising (map number s) → Rising (map number t) → Within s t → Within t s → s ≡ t
rising-unique s t p q =
    sorted-unique NumberLess (λ a. lt_irrefl (number a)) (λ a b c h k. lt_trans h k) s t (rising-sorted s p) (rising-sorted t q)

-- A list with one member taken out.
record Taken (a : Label) (t : List Label) : Type 0 where
  rest : List Label
  shorter : length t ≡ suc (length rest)
  others : (c : Label) → c ∈ t → (c ≡ a) ⊎ (c ∈ rest)

take_out : (a : Label) (t : List Label) → a ∈ t → Taken a t
take_out a (b ∷ t) (inl e) = record { rest = t; shorter = refl; others = λ c. elim [ inl k ↦ inl (k ∙ sym e) | inr m ↦ inr m ] }
take_out a [] x' = elim x' [ ]
take_out a (b ∷ t) (inr m) = keep-head (take_out a t m)
  where
    keep-head : Taken a t → Taken a (b ∷ t)
    keep-head x = record {
      rest = b ∷ x.rest;
      shorter = ap suc x.shorter;
      others = λ c. elim [ inl k ↦ inr (inl k) | inr n ↦ elim (x.others c n) [ inl k ↦ inl k | inr l ↦ inr (inr l) ] ];
    }

-- A list without repetition is no longer than one it lies within; and if that one is no longer either, the two have the same members.
pub once-count : (s t : List Label) → Once s → Within s t → (length s ≤ length t) × (length t ≤ length s → Within t s)
once-count [] [] o w = (zero-le, λ h c m. m)
once-count [] (b ∷ t) o w = (zero-le, λ h. absurd (not-suc-le-zero h))
once-count (a ∷ s) t o w =
    let x = take_out a t (w a (inl refl)) in
    let inner = once-count s x.rest o.1
    (λ c m. elim (x.others c (w c (inr m))) [ inl k ↦ absurd (o.0 (subst (λ (y : Label). y ∈ s) k m)) | inr l ↦ l ]) in (
      rw x.shorter (suc-le-suc inner.0),
      λ h c m. elim (x.others c m) [ inl k ↦ inl k | inr l ↦ inr (inner.1 (le_of_suc-le-suc (rw x.shorter at h)) c l) ],
    )
