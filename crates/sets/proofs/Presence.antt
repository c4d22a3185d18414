-- What is in an ascending list of numbers, and what stays in it while labels are put in.
-- Assumes nothing.
use mathlib.Core.Path.{◌≡◌, refl, sym, ap, subst, ◌∙◌}
use mathlib.Core.Logic.{◌⊎◌, inl, inr, ◌↔◌}
use mathlib.Core.Bool.{Bool, true, false, ◌&&◌}
use mathlib.Core.List.{List, [], ◌∷◌}
use Prim.Native.Nat.{ℕ, ◌+◌, ◌≤◌, ◌<◌, compare, Ordering}
use native.Mathlib.Nat.{lt_trans}
use native.Mathlib.Numerals.{add-one}
use native.Mathlib.Omega.{arith}
use borrow.Author.Tests.{ltb-true}
use lib.Dec.{ltb}
use lib.ListN.{length, get_or, drop, drop_of_length-le}
use lib.Seq.{drop-cons}
use Rattle.meaning.specs.Sets.{◌∈◌, Rising}
use Rattle.meaning.proofs.Tests.{Says, compare-says}
use Rattle.sets.specs.Ascending.{rises}
use Rattle.sets.specs.Inserting.{present, inserted, placed_by, insert_number}
use Rattle.sets.specs.Building.{Building, done, and_then, each, enter}
use Rattle.sets.proofs.Ascent.{compare-gt, compare-eq, and-true, insert-absent, rising-insert, Entering, rising-enter}
use Rattle.sets.proofs.Steps.{length-put_in}

-- Insertion adds just the one number, in any list.
in-placed : (o : Ordering) (w x : ℕ) (s more : List ℕ) (v : ℕ) → Says ◌<◌ o w x → (v ∈ more) ↔ ((v ≡ w) ⊎ (v ∈ s))
    → (v ∈ placed_by o w x s more) ↔ ((v ≡ w) ⊎ (v ∈ (x ∷ s)))
in-placed Ordering.lt w x s more v h k = (λ m. m, λ m. m)
in-placed Ordering.eq w x s more v h k = (inr, elim [ inl e ↦ inl (e ∙ h) | inr m ↦ m ])
in-placed Ordering.gt w x s more v h k = (
  elim [ inl e ↦ inr (inl e) | inr m ↦ elim (k.0 m) [ inl e ↦ inl e | inr n ↦ inr (inr n) ] ],
  elim [ inl e ↦ inr (k.1 (inl e)) | inr m ↦ elim m [ inl e ↦ inl e | inr n ↦ inr (k.1 (inr n)) ] ],
)

pub in_insert : (w : ℕ) (s : List ℕ) (v : ℕ) → (v ∈ insert_number w s) ↔ ((v ≡ w) ⊎ (v ∈ s))
unfolding insert_number
in_insert w [] v = (λ m. m, λ m. m)
in_insert w (x ∷ s) v = in-placed (compare w x) w x s (insert_number w s) v (compare-says w x) (in_insert w s v)

-- A member leaves an ascending list as it is, while an absent number makes it longer: so a member is found.
rising-in : (x : ℕ) (s : List ℕ) (w : ℕ) → Rising (x ∷ s) → w ∈ s → x < w
rising-in x [] w r x4 = elim x4 [ ]
rising-in x (y ∷ s) w r (inl e) = rw e r.0
rising-in x (y ∷ s) w r (inr m) = lt_trans r.0 (rising-in y s w r.1 m)

insert-member : (s : List ℕ) (w : ℕ) → Rising s → w ∈ s → insert_number w s ≡ s
unfolding insert_number
insert-member [] w r x'' = elim x'' [ ]
insert-member (x ∷ s) w r (inl e) = rw (compare-eq w x e)
insert-member (x ∷ s) w r (inr m) = rw (compare-gt w x (rising-in x s w r m), insert-member s w r.1 m)

pub in-present : (s : List ℕ) (w : ℕ) → Rising s → w ∈ s → present s w ≡ true
in-present s w r m = go (present s w) refl
  where
    go : (there : Bool) → present s w ≡ there → there ≡ true
    go true e = refl
    go false e =
        let l = ap length (sym (insert-member s w r m) ∙ insert-absent s w r e) ∙ length-put_in s w in
        absurd (omega arith)

-- Labels that are put in one after the other: those that are there change nothing, the list stays ascending and loses none,
-- and it has them all if all went in.
module _ (room : ℕ) where
  pub entered-there : (ws s : List ℕ) → Rising s → ((w : ℕ) → w ∈ ws → w ∈ s) → each (enter room) ws s ≡ done s
  unfolding each inserted
  entered-there [] s r h = refl
  entered-there (w ∷ ws) s r h = rw (in-present s w r (h w (inl refl))) (entered-there ws s r (λ v m. h v (inr m)))

  -- the first of several: it goes in, or nothing more does
  first-in : (w : ℕ) (ws s : List ℕ) → Rising s
      → (each (enter room) (w ∷ ws) s ≡ each (enter room) ws (insert_number w s))
      ⊎ (((each (enter room) (w ∷ ws) s).set ≡ s) × ((each (enter room) (w ∷ ws) s).whole ≡ false))
  unfolding each Entering
  first-in w ws s r = go (rising-enter room w s r)
    where
      go : Entering room w s
          → (and_then (enter room w s) (each (enter room) ws) ≡ each (enter room) ws (insert_number w s))
          ⊎ (((and_then (enter room w s) (each (enter room) ws)).set ≡ s) × ((and_then (enter room w s) (each (enter room) ws)).whole ≡ false))
      go (inl e) = inl (ap (λ (b : Building). and_then b (each (enter room) ws)) e)
      go (inr e) =
          let f = ap (λ (b : Building). and_then b (each (enter room) ws)) e.0 in
          inr (ap (λ (b : Building). b.set) f, ap (λ (b : Building). b.whole) f)

  pub entered-rising : (ws s : List ℕ) → Rising s → Rising (each (enter room) ws s).set
  unfolding each
  entered-rising [] s r = r
  entered-rising (w ∷ ws) s r = elim (first-in w ws s r) [
    | inl e ↦ subst (λ (b : Building). Rising b.set) (sym e) (entered-rising ws (insert_number w s) (rising-insert w s r))
    | inr e ↦ subst Rising (sym e.0) r
  ]

  pub entered-keeps : (ws s : List ℕ) → Rising s → (v : ℕ) → v ∈ s → v ∈ (each (enter room) ws s).set
  unfolding each
  entered-keeps [] s r v m = m
  entered-keeps (w ∷ ws) s r v m = elim (first-in w ws s r) [
    | inl e ↦
        subst (λ (b : Building). v ∈ b.set) (sym e)
        (entered-keeps ws (insert_number w s) (rising-insert w s r) v ((in_insert w s v).1 (inr m)))
    | inr e ↦ subst (λ (t : List ℕ). v ∈ t) (sym e.0) m
  ]

  pub entered-has : (ws s : List ℕ) → Rising s → (each (enter room) ws s).whole ≡ true
      → (v : ℕ) → v ∈ ws → v ∈ (each (enter room) ws s).set
  entered-has [] s r h v m = elim m [ ]
  entered-has (w ∷ ws) s r h v m = elim (first-in w ws s r) [
    | inl e ↦
        let k = ap (λ (b : Building). b.whole) (sym e) ∙ h in
        let q = rising-insert w s r in
        subst (λ (b : Building). v ∈ b.set) (sym e) (elim m [
          | inl f ↦ entered-keeps ws (insert_number w s) q v ((in_insert w s v).1 (inl f))
          | inr n ↦ entered-has ws (insert_number w s) q k v n
        ])
    | inr e ↦ absurd (let z : ◌≡◌ {A = ℕ} 0 1 = cc e.1 in omega arith)
  ]

-- The test of `ascends`, and its loop: what is left, behind the last label read, ascends if the whole does.
pub rises→ : (s : List ℕ) → rises s ≡ true → Rising s
unfolding rises
rises→ [] e = tt
rises→ (x ∷ []) e = (tt, tt)
rises→ (x ∷ y ∷ s) e =
    let p = and-true (ltb x y) (rises (y ∷ s)) e in
    (ltb-true x y p.0, rises→ (y ∷ s) p.1)

pub record Climbing (s : List ℕ) (last i : ℕ) : Type 0 where
  pub equal : rises s ≡ rises (last ∷ drop i s)

pub climbing-none : (s : List ℕ) → length s ≡ 0 → true ≡ rises s
unfolding rises
climbing-none s e = ap rises (sym (drop_of_length-le s {i = 0} (omega arith)))

pub climbing-start : (s : List ℕ) (last : ℕ) → 0 < length s → last ≡ get_or s 0 0 → Climbing s last 1
climbing-start s last h e = record { equal = rw e (ap rises (drop-cons s 0 0 h)) }

module _ {s : List ℕ} {last i : ℕ} (x : Climbing s last i) where
  climbing-next : (next : ℕ) → i < length s → next ≡ get_or s i 0 → rises s ≡ ltb last next && rises (next ∷ drop (i + 1) s)
  unfolding rises
  climbing-next next h e = x.equal ∙ rw (add-one, e, drop-cons s i 0)

  pub climbing-on : (next : ℕ) → i < length s → next ≡ get_or s i 0 → true ≡ ltb last next → Climbing s next (i + 1)
  climbing-on next h e l = record { equal = climbing-next next h e ∙ rw (← l) }

  pub climbing-stops : (next : ℕ) → i < length s → next ≡ get_or s i 0 → false ≡ ltb last next → false ≡ rises s
  climbing-stops next h e l = sym (climbing-next next h e ∙ rw (← l))

  pub climbing-end : length s ≤ i → true ≡ rises s
  unfolding rises
  climbing-end h = sym (x.equal ∙ ap (λ (l : List ℕ). rises (last ∷ l)) (drop_of_length-le s h))
