-- Members of the lists that sets are made of.
-- Assumes nothing.
use mathlib.Core.Path.{◌≡◌, refl, sym, ap, subst, ◌∙◌}
use mathlib.Core.Logic.{◌⊎◌, inl, inr, ◌↔◌}
use mathlib.Core.Bool.{Bool, true, false}
use mathlib.Core.List.{List, [], ◌∷◌, ◌++◌, map, flat_map}
use Prim.Native.Nat.{ℕ, zero, suc, ◌<◌, Ordering}
use native.Mathlib.Nat.{not-suc-le-zero}
use native.Mathlib.Omega.{arith}
use lib.Dec.{T, compare_is_eq}
use lib.ListN.{length, get_or}
use Rattle.meaning.specs.Labels.{Label, order, plus}
use Rattle.meaning.specs.Legal.{Each}
use Rattle.meaning.specs.Sets.{◌∈◌, member, placed, insert, ascending, spread, kept, keep, turn, product}
use Rattle.meaning.proofs.Tests.{Says, or_cases, or_left, or_right}
use Rattle.meaning.proofs.Order.{◌≺◌, ≺-irrefl, ≺-trans, order-says, same→eq, eq→same}
use Rattle.meaning.proofs.Ascent.{Sorted, Within, sorted-unique}

pub in-append : {A : Type 0} (a : A) (s t : List A) → (a ∈ (s ++ t)) ↔ ((a ∈ s) ⊎ (a ∈ t))
in-append a [] t = (inr, elim [ inl m ↦ absurd m | inr m ↦ m ])
in-append a (b ∷ s) t = (
  elim [ inl e ↦ inl (inl e) | inr m ↦ elim ((in-append a s t).0 m) [ inl k ↦ inl (inr k) | inr k ↦ inr k ] ],
  elim [ inl m ↦ elim m [ inl e ↦ inl e | inr k ↦ inr ((in-append a s t).1 (inl k)) ] | inr k ↦ inr ((in-append a s t).1 (inr k)) ],
)

pub each_in : {A : Type 0} (P : A → Type 0) (s : List A) → ((a : A) → a ∈ s → P a) → Each P s
each_in P [] h = tt
each_in P (a ∷ s) h = (h a (inl refl), each_in P s (λ b m. h b (inr m)))

pub each_of : {A : Type 0} (P : A → Type 0) (s : List A) → Each P s → (a : A) → a ∈ s → P a
each_of P (b ∷ s) h a (inl e) = subst P (sym e) h.0
each_of {A = A} P [] h a x'' = elim x'' [ ]
each_of P (b ∷ s) h a (inr m) = each_of P s h.1 a m

pub in-at : {A : Type 0} (s : List A) (n : ℕ) (x : A) → n < length s → get_or s n x ∈ s
in-at [] n x l = absurd (not-suc-le-zero l)
in-at (a ∷ s) zero x l = inl refl
in-at (a ∷ s) (suc n) x l = inr (in-at s n x (omega (arith, l)))

pub record Image {A B : Type 0} (f : A → B) (s : List A) (b : B) : Type 0 where
  pub source : A
  pub there : source ∈ s
  pub becomes : b ≡ f source

pub in-map→ : {A B : Type 0} (f : A → B) (s : List A) (b : B) → b ∈ map f s → Image f s b
in-map→ f (a ∷ s) b (inl e) = record { source = a; there = inl refl; becomes = e }
in-map→ {A = A} {B = B} f [] b x' = elim x' [ ]
in-map→ f (a ∷ s) b (inr m) = let x = in-map→ f s b m in record { source = x.source; there = inr x.there; becomes = x.becomes }

pub in_map : {A B : Type 0} (f : A → B) (s : List A) (a : A) → a ∈ s → f a ∈ map f s
in_map f (b ∷ s) a (inl e) = inl (ap f e)
in_map {A = A} {B = B} f [] a x' = elim x' [ ]
in_map f (b ∷ s) a (inr m) = inr (in_map f s a m)

-- What some member of a list gives through f.
pub record Given {A B : Type 0} (f : A → List B) (s : List A) (b : B) : Type 0 where
  pub source : A
  pub there : source ∈ s
  pub gives : b ∈ f source

pub in-flat_map→ : {A B : Type 0} (f : A → List B) (s : List A) (b : B) → b ∈ flat_map f s → Given f s b
unfolding flat_map
in-flat_map→ {A = A} {B = B} f [] b m = elim m [ ]
in-flat_map→ f (a ∷ s) b m = pick ((in-append b (f a) (flat_map f s)).0 m) (in-flat_map→ f s b)
  where
    pick : (b ∈ f a) ⊎ (b ∈ flat_map f s) → (b ∈ flat_map f s → Given f s b) → Given f (a ∷ s) b
    pick (inl k) more = record { source = a; there = inl refl; gives = k }
    pick (inr k) more = let x = more k in record { source = x.source; there = inr x.there; gives = x.gives }

pub in-flat_map : {A B : Type 0} (f : A → List B) (s : List A) (a : A) (b : B) → a ∈ s → b ∈ f a → b ∈ flat_map f s
unfolding flat_map
in-flat_map {A = A} f (c ∷ s) a b (inl e) m = (in-append b (f c) (flat_map f s)).1 (inl (subst (λ (x : A). b ∈ f x) e m))
in-flat_map {A = A} {B = B} f [] a b x'' m = elim x'' [ ]
in-flat_map f (c ∷ s) a b (inr k) m = (in-append b (f c) (flat_map f s)).1 (inr (in-flat_map f s a b k m))

-- A label that some label with property P gives through f, and the sum of a label with P and one with Q.
pub record Through (f : Label → List Label) (P : Label → Type 0) (b : Label) : Type 0 where
  pub source : Label
  pub there : P source
  pub gives : b ∈ f source

pub record Sum (P Q : Label → Type 0) (c : Label) : Type 0 where
  pub left : Label
  pub right : Label
  pub in_left : P left
  pub in_right : Q right
  pub adds : c ≡ plus left right

pub in-spread→ : (f : Label → List Label) (s : List Label) (b : Label) → b ∈ spread f s → Through f (λ a. a ∈ s) b
unfolding spread
in-spread→ f [] b m = elim m [ ]
in-spread→ f (a ∷ s) b m = pick ((in-append b (f a) (spread f s)).0 m) (in-spread→ f s b)
  where
    pick : (b ∈ f a) ⊎ (b ∈ spread f s) → (b ∈ spread f s → Through f (λ c. c ∈ s) b) → Through f (λ c. c ∈ (a ∷ s)) b
    pick (inl k) more = record { source = a; there = inl refl; gives = k }
    pick (inr k) more = let x = more k in record { source = x.source; there = inr x.there; gives = x.gives }

pub in-spread : (f : Label → List Label) (s : List Label) (a b : Label) → a ∈ s → b ∈ f a → b ∈ spread f s
unfolding spread
in-spread f (c ∷ s) a b (inl e) m = (in-append b (f c) (spread f s)).1 (inl (subst (λ (x : Label). b ∈ f x) e m))
in-spread f [] a b x'' m = elim x'' [ ]
in-spread f (c ∷ s) a b (inr k) m = (in-append b (f c) (spread f s)).1 (inr (in-spread f s a b k m))

pub in-product→ : (s t : List Label) (c : Label) → c ∈ product s t → Sum (λ a. a ∈ s) (λ b. b ∈ t) c
unfolding product
in-product→ s t c m =
    let x = in-spread→ (λ a. map (plus a) t) s c m in
    let y = in-map→ (plus x.source) t c x.gives in
    record { left = x.source; right = y.source; in_left = x.there; in_right = y.there; adds = y.becomes }

pub in-product : (s t : List Label) (c : Label) → Sum (λ a. a ∈ s) (λ b. b ∈ t) c → c ∈ product s t
unfolding product
in-product s t c x =
    in-spread (λ a. map (plus a) t) s x.left c x.in_left
    (subst (λ (e : Label). e ∈ map (plus x.left) t) (sym x.adds) (in_map (plus x.left) t x.right x.in_right))

-- A filter keeps a label exactly if its test passes; a map turns it into one other. This is said once for block, allow and
-- the order, once for hide and rename.
kept-says : (t : Bool) (a b : Label) → (b ∈ kept t a) ↔ ((b ≡ a) × T t)
kept-says true a b = (elim [ inl e ↦ (e, tt) | inr m ↦ absurd m ], λ h. inl h.0)
kept-says false a b = (λ m. absurd m, λ h. h.1)

pub in-keep : (test : Label → Bool) (a b : Label) → (b ∈ keep test a) ↔ ((b ≡ a) × T (test a))
in-keep test a b = kept-says (test a) a b

pub in-turn : (f : Label → Label) (a b : Label) → (b ∈ turn f a) ↔ (b ≡ f a)
in-turn f a b = (elim [ inl e ↦ e | inr m ↦ absurd m ], inl)

pub in-filter : (test : Label → Bool) (s : List Label) (a : Label) → (a ∈ spread (keep test) s) ↔ ((a ∈ s) × T (test a))
in-filter test s a = (
  λ m.
      let x = in-spread→ (keep test) s a m in
      let y = (in-keep test x.source a).0 x.gives in
      (subst (λ (b : Label). b ∈ s) (sym y.0) x.there, subst (λ (b : Label). T (test b)) (sym y.0) y.1),
  λ h. in-spread (keep test) s a a h.0 ((in-keep test a a).1 (refl, h.1)),
)

-- The test of membership.
pub member→in : (a : Label) (s : List Label) → T (member a s) → a ∈ s
unfolding member
member→in a (b ∷ s) t = elim (or_cases (compare_is_eq (order a b)) (member a s) t) [ inl h ↦ inl (same→eq a b h) | inr h ↦ inr (member→in a s h) ]
member→in a [] t = t

pub in→member : (a : Label) (s : List Label) → a ∈ s → T (member a s)
unfolding member
in→member a (b ∷ s) (inl e) = or_left (compare_is_eq (order a b)) (member a s) (eq→same a b e)
in→member a [] x' = elim x' [ ]
in→member a (b ∷ s) (inr m) = or_right (compare_is_eq (order a b)) (member a s) (in→member a s m)

-- Insertion adds just the one label, and keeps a list in order.
in-placed : (o : Ordering) (a b : Label) (s more : List Label) (c : Label) → Says ◌≺◌ o a b → (c ∈ more) ↔ ((c ≡ a) ⊎ (c ∈ s))
    → (c ∈ placed o a b s more) ↔ ((c ≡ a) ⊎ (c ∈ (b ∷ s)))
in-placed Ordering.lt a b s more c h k = (λ m. m, λ m. m)
in-placed Ordering.eq a b s more c h k = (inr, elim [ inl e ↦ inl (e ∙ h) | inr m ↦ m ])
in-placed Ordering.gt a b s more c h k = (
  elim [ inl e ↦ inr (inl e) | inr m ↦ elim (k.0 m) [ inl e ↦ inl e | inr n ↦ inr (inr n) ] ],
  elim [ inl e ↦ inr (k.1 (inl e)) | inr m ↦ elim m [ inl e ↦ inl e | inr n ↦ inr (k.1 (inr n)) ] ],
)

pub in_insert : (a : Label) (s : List Label) (c : Label) → (c ∈ insert a s) ↔ ((c ≡ a) ⊎ (c ∈ s))
unfolding insert
in_insert a [] c = (λ m. m, λ m. m)
in_insert a (b ∷ s) c = in-placed (order a b) a b s (insert a s) c (order-says a b) (in_insert a s c)

abbrev pub Ascending : List Label → Type 0
Ascending s = Sorted ◌≺◌ s

ascending-placed : (o : Ordering) (a b : Label) (s : List Label) → Says ◌≺◌ o a b → Ascending (b ∷ s) → Ascending (insert a s)
    → Ascending (placed o a b s (insert a s))
ascending-placed Ordering.lt a b s h p k = (λ c. elim [ inl e ↦ subst (λ (x : Label). a ≺ x) (sym e) h | inr m ↦ ≺-trans a b c h (p.0 c m) ], p)
ascending-placed Ordering.eq a b s h p k = p
ascending-placed Ordering.gt a b s h p k = (
  λ c m. elim ((in_insert a s c).0 m) [ inl e ↦ subst (λ (x : Label). b ≺ x) (sym e) h | inr n ↦ p.0 c n ],
  k,
)

pub insert-ascending : (a : Label) (s : List Label) → Ascending s → Ascending (insert a s)
unfolding insert
insert-ascending a [] p = (λ b m. absurd m, tt)
insert-ascending a (b ∷ s) p = ascending-placed (order a b) a b s (order-says a b) p (insert-ascending a s p.1)

pub in-ascending : (s : List Label) (c : Label) → (c ∈ ascending s) ↔ (c ∈ s)
unfolding ascending
in-ascending [] c = (λ m. m, λ m. m)
in-ascending (a ∷ s) c = (
  λ m. elim ((in_insert a (ascending s) c).0 m) [ inl e ↦ inl e | inr n ↦ inr ((in-ascending s c).0 n) ],
  λ m. (in_insert a (ascending s) c).1 (elim m [ inl e ↦ inl e | inr n ↦ inr ((in-ascending s c).1 n) ]),
)

pub ascending-ascends : (s : List Label) → Ascending (ascending s)
unfolding ascending
ascending-ascends [] = tt
ascending-ascends (a ∷ s) = insert-ascending a (ascending s) (ascending-ascends s)

pub ascending-unique : (s t : List Label) → Ascending s → Ascending t → Within s t → Within t s → s ≡ t
ascending-unique = sorted-unique ◌≺◌ ≺-irrefl ≺-trans

-- Lists of the same labels are the same set.
pub same_set : (s t : List Label) → Within s t → Within t s → ascending s ≡ ascending t
same_set s t there back =
    ascending-unique (ascending s) (ascending t) (ascending-ascends s) (ascending-ascends t)
    (λ a m. (in-ascending t a).1 (there a ((in-ascending s a).0 m))) (λ a m. (in-ascending s a).1 (back a ((in-ascending t a).0 m)))
