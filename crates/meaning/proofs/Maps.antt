-- Hiding and renaming as maps of labels: each keeps the empty label and sums and adds no action; and to hide twice is to hide
-- the names of both lists.
-- Assumes nothing.
use mathlib.Core.Path.{◌≡◌, refl, sym, ap, ap₂, subst, ◌∙◌, ◌≡⟨◌⟩◌, ◌∎}
use mathlib.Core.Logic.{inl, inr, ◌↔◌}
use mathlib.Core.List.{List, [], ◌∷◌, ◌++◌}
use Prim.Native.Nat.{ℕ, zero, suc, ◌+◌, ◌≤◌}
use native.Mathlib.Nat.{le_refl, zero-add}
use native.Mathlib.Omega.{arith}
use native.Mathlib.Decide.{ℕ_discrete}
use lib.ListN.{length, set, length-set, length-replicate}
use lib.Seq.{ext_get_or, get_or-set_other}
use Rattle.meaning.specs.Labels.{Label, count, size, empty, several, plus, without, renamed_from, renamed}
use Rattle.meaning.specs.Sets.{◌∈◌}
use Rattle.meaning.specs.Laws.{Union, Keeps}
use Rattle.meaning.proofs.Members.{in-append}
use Rattle.meaning.proofs.Bags.{plus_none, plus_comm, plus_assoc, length-plus, length-several, size-plus, size-empty, size-several}

-- Hiding one list after another is hiding both.
without-append : (ns ms : List ℕ) (a : Label) → without ns (without ms a) ≡ without (ns ++ ms) a
unfolding without
without-append [] ms a = refl
without-append (n ∷ ns) ms a = ap (λ (b : Label). set b n 0) (without-append ns ms a)

-- What is left depends on which names are listed, and on nothing else of the list: a listed name counts 0, any other what it did.
pub listed? : (n : ℕ) (ns : List ℕ) → Dec (n ∈ ns)
listed? n [] = no (λ m. m)
listed? n (m ∷ ns) =
    elim (ℕ_discrete n m) [
      | yes e ↦ yes (inl e)
      | no d ↦ elim (listed? n ns) [ yes k ↦ yes (inr k) | no h ↦ no (elim [ inl e ↦ d e | inr k ↦ h k ]) ]
    ]

count-zeroed : (a : Label) (n : ℕ) → count (set a n 0) n ≡ 0
count-zeroed [] n = refl
count-zeroed (x ∷ a) zero = refl
count-zeroed (x ∷ a) (suc n) = count-zeroed a n

count-listed : (ns : List ℕ) (a : Label) (n : ℕ) → n ∈ ns → count (without ns a) n ≡ 0
unfolding without
count-listed [] a n k = elim k [ ]
count-listed (m ∷ ns) a n k =
    elim (ℕ_discrete n m) [
      | yes e ↦ rw e (count-zeroed (without ns a) m)
      | no d ↦ get_or-set_other (without ns a) m n 0 0 d ∙ count-listed ns a n (elim k [ inl e ↦ absurd (d e) | inr l ↦ l ])
    ]

count-other : (ns : List ℕ) (a : Label) (n : ℕ) → (n ∈ ns → ⊥) → count (without ns a) n ≡ count a n
unfolding without
count-other [] a n h = refl
count-other (m ∷ ns) a n h = get_or-set_other (without ns a) m n 0 0 (λ e. h (inl e)) ∙ count-other ns a n (λ k. h (inr k))

pub length_without : (ns : List ℕ) (a : Label) → length (without ns a) ≡ length a
unfolding without
length_without [] a = refl
length_without (n ∷ ns) a = length-set (without ns a) n 0 ∙ length_without ns a

same_names : (ns ks : List ℕ) → ((n : ℕ) → (n ∈ ks) ↔ (n ∈ ns)) → (a : Label) → without ns a ≡ without ks a
same_names ns ks same a = ext_get_or 0 (without ns a) (without ks a) (length_without ns a ∙ sym (length_without ks a)) (λ n h. counts n (listed? n ns))
  where
    counts : (n : ℕ) → Dec (n ∈ ns) → count (without ns a) n ≡ count (without ks a) n
    counts n (yes m) = count-listed ns a n m ∙ sym (count-listed ks a n ((same n).1 m))
    counts n (no h) = count-other ns a n h ∙ sym (count-other ks a n (λ m. h ((same n).0 m)))

pub without-twice : (ns ms ks : List ℕ) → Union ns ms ks → (a : Label) → without ns (without ms a) ≡ without ks a
without-twice ns ms ks u a =
    without-append ns ms a
    ∙ same_names (ns ++ ms) ks (λ n. (λ m. (in-append n ns ms).1 ((u n).0 m), λ m. (u n).1 ((in-append n ns ms).0 m))) a

size-set : (a : Label) (n : ℕ) → size (set a n 0) ≤ size a
unfolding size
size-set [] n = le_refl 0
size-set (x ∷ a) zero = omega arith
size-set (x ∷ a) (suc n) = let ih = size-set a n in omega arith

pub size-without : (ns : List ℕ) (a : Label) → size (without ns a) ≤ size a
unfolding without
size-without [] a = le_refl (size a)
size-without (n ∷ ns) a = let ih = size-without ns a in let k = size-set (without ns a) n in omega arith

-- Hiding keeps the empty label and sums.
zeroed-empty : (names n : ℕ) → set (empty names) n 0 ≡ empty names
zeroed-empty zero n = refl
zeroed-empty (suc names) zero = refl
zeroed-empty (suc names) (suc n) = ap (λ (a : Label). 0 ∷ a) (zeroed-empty names n)

zeroed-plus : (a b : Label) (n : ℕ) → set (plus a b) n 0 ≡ plus (set a n 0) (set b n 0)
unfolding plus
zeroed-plus [] b n = refl
zeroed-plus (x ∷ a) [] n = sym (plus_none (set (x ∷ a) n 0))
zeroed-plus (x ∷ a) (y ∷ b) zero = refl
zeroed-plus (x ∷ a) (y ∷ b) (suc n) = ap (λ (c : Label). (x + y) ∷ c) (zeroed-plus a b n)

without-empty : (ns : List ℕ) (names : ℕ) → without ns (empty names) ≡ empty names
unfolding without
without-empty [] names = refl
without-empty (n ∷ ns) names = rw (without-empty ns names) (zeroed-empty names n)

without-plus : (ns : List ℕ) (a b : Label) → without ns (plus a b) ≡ plus (without ns a) (without ns b)
unfolding without
without-plus [] a b = refl
without-plus (n ∷ ns) a b = rw (without-plus ns a b) (zeroed-plus (without ns a) (without ns b) n)

pub without-keeps : (names : ℕ) (ns : List ℕ) → Keeps names (without ns)
without-keeps names ns = record { none = without-empty ns names; sums = without-plus ns }

-- Renaming gives a count for each name,
pub length-renamed : (names : ℕ) (map : ℕ → ℕ) (a : Label) (first : ℕ) → length (renamed_from first names map a) ≡ names
unfolding renamed_from
length-renamed names map [] first = length-replicate names 0
length-renamed names map (x ∷ a) first =
    length-plus names _ (renamed_from (suc first) names map a) (length-several names (map first) _) (length-renamed names map a (suc first))

-- keeps the empty label and sums,
zeros-plus : (a : Label) → plus (empty (length a)) a ≡ a
unfolding plus
zeros-plus [] = refl
zeros-plus (x ∷ a) = ap₂ {C = Label} ◌∷◌ (zero-add x) (zeros-plus a)

empty-plus : (names : ℕ) (a : Label) → length a ≡ names → plus (empty names) a ≡ a
empty-plus names a e = subst (λ (n : ℕ). plus (empty n) a ≡ a) e (zeros-plus a)

several-plus : (names n x y : ℕ) → several names n (x + y) ≡ plus (several names n x) (several names n y)
unfolding plus
several-plus zero n x y = refl
several-plus (suc names) zero x y = ap (λ (a : Label). (x + y) ∷ a) (sym (empty-plus names (empty names) (length-replicate names 0)))
several-plus (suc names) (suc n) x y = ap (λ (a : Label). 0 ∷ a) (several-plus names n x y)

plus-across : (a b c d : Label) → plus (plus a b) (plus c d) ≡ plus (plus a c) (plus b d)
plus-across a b c d =
    plus (plus a b) (plus c d)
    ≡⟨ plus_assoc a b (plus c d) ⟩ plus a (plus b (plus c d))
    ≡⟨ ap (plus a) (sym (plus_assoc b c d)) ⟩ plus a (plus (plus b c) d)
    ≡⟨ ap (λ (x : Label). plus a (plus x d)) (plus_comm b c) ⟩ plus a (plus (plus c b) d)
    ≡⟨ ap (plus a) (plus_assoc c b d) ⟩ plus a (plus c (plus b d))
    ≡⟨ sym (plus_assoc a c (plus b d)) ⟩ plus (plus a c) (plus b d) ∎

module _ (names : ℕ) (map : ℕ → ℕ) where
  renamed-empty : (more first : ℕ) → renamed_from first names map (empty more) ≡ empty names
  unfolding renamed_from
  renamed-empty zero first = refl
  renamed-empty (suc more) first =
      plus (several names (map first) 0) (renamed_from (suc first) names map (empty more))
      ≡⟨ ap₂ plus (zeroed-empty names (map first)) (renamed-empty more (suc first)) ⟩ plus (empty names) (empty names)
      ≡⟨ empty-plus names (empty names) (length-replicate names 0) ⟩ empty names ∎

  renamed-plus : (a b : Label) (first : ℕ)
      → renamed_from first names map (plus a b) ≡ plus (renamed_from first names map a) (renamed_from first names map b)
  unfolding renamed_from plus
  renamed-plus [] b first = sym (empty-plus names (renamed_from first names map b) (length-renamed names map b first))
  renamed-plus (x ∷ a) [] first =
      let r = renamed_from first names map (x ∷ a) in
      sym (plus_comm r (empty names) ∙ empty-plus names r (length-renamed names map (x ∷ a) first))
  renamed-plus (x ∷ a) (y ∷ b) first =
      let here = map first in
      let rest = suc first in
      ap₂ plus (several-plus names here x y) (renamed-plus a b rest)
      ∙ plus-across (several names here x) (several names here y) (renamed_from rest names map a) (renamed_from rest names map b)

  pub renamed_keeps : Keeps names (renamed names map)
  renamed_keeps = record { none = renamed-empty names 0; sums = λ a b. renamed-plus a b 0 }

-- and adds no action.
pub size-renamed : (names : ℕ) (map : ℕ → ℕ) (a : Label) (first : ℕ) → size (renamed_from first names map a) ≤ size a
unfolding renamed_from size
size-renamed names map [] first = omega (arith, size-empty names)
size-renamed names map (x ∷ a) first =
    let ih = size-renamed names map a (suc first) in
    omega (arith, size-plus (several names (map first) x) (renamed_from (suc first) names map a), size-several names (map first) x)
