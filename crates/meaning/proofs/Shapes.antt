-- What a term is made of, as a property of labels: the same as the lists say, and growing with the sets and with the shape. And
-- what it depends on.
-- Assumes nothing.
use mathlib.Core.Path.{◌≡◌, refl, ap, ap₂}
use mathlib.Core.Logic.{◌⊎◌, inl, inr}
use mathlib.Core.Bool.{Bool, ◌&&◌}
use mathlib.Core.List.{List, [], ◌∷◌, ◌++◌}
use Prim.Native.Nat.{ℕ, ◌<◌}
use Rattle.meaning.specs.Labels.{Label, empty, single}
use Rattle.meaning.specs.Sets.{◌∈◌, at, spread, product}
use Rattle.meaning.specs.Descriptions.{Term, act, tau, delta, ref, sum, cond, choice, ifelse, seq, merge, lmerge, sync, wrap, Description, names}
use Rattle.meaning.specs.Rounds.{sync_shape, image, is_multi_action, Shape, leaf, reference, one, either, both, joint, through, shape, made}
use Rattle.meaning.specs.Regrouping.{Below}
use Rattle.meaning.proofs.SyncOrOther.{NoSync, SyncOrOther, is-sync, other, sync-or-other}
use Rattle.meaning.proofs.Members.{Through, Sum, in-append, in-spread, in-spread→, in-product, in-product→}

-- a family of label sets: of the equations, or of the terms
abbrev pub Family : Type 1
Family = ℕ → Label → Type 0

abbrev pub Made : Family → Family → Shape → Label → Type 0
Made P Q (leaf s) a = a ∈ s
Made P Q (reference e) a = P e a
Made P Q (one t) a = Q t a
Made P Q (either t u) a = Q t a ⊎ Q u a
Made P Q (both t u) a = (Q t a ⊎ Q u a) ⊎ Sum (Q t) (Q u) a
Made P Q (joint t u) a = Sum (Q t) (Q u) a
Made P Q (through f t) a = Through f (Q t) a

abbrev pub In : List (List Label) → Family
In sets t a = a ∈ at sets t

pub in-made→ : (eqs sets : List (List Label)) (s : Shape) (a : Label) → a ∈ made eqs sets s → Made (In eqs) (In sets) s a
in-made→ eqs sets (leaf s) a m = m
in-made→ eqs sets (reference e) a m = m
in-made→ eqs sets (one t) a m = m
in-made→ eqs sets (either t u) a m = (in-append a (at sets t) (at sets u)).0 m
in-made→ eqs sets (both t u) a m =
    elim ((in-append a (at sets t ++ at sets u) (product (at sets t) (at sets u))).0 m) [
      | inl k ↦ inl ((in-append a (at sets t) (at sets u)).0 k)
      | inr k ↦ inr (in-product→ (at sets t) (at sets u) a k)
    ]
in-made→ eqs sets (joint t u) a m = in-product→ (at sets t) (at sets u) a m
in-made→ eqs sets (through f t) a m = in-spread→ f (at sets t) a m

pub in-made : (eqs sets : List (List Label)) (s : Shape) (a : Label) → Made (In eqs) (In sets) s a → a ∈ made eqs sets s
in-made eqs sets (leaf s) a m = m
in-made eqs sets (reference e) a m = m
in-made eqs sets (one t) a m = m
in-made eqs sets (either t u) a m = (in-append a (at sets t) (at sets u)).1 m
in-made eqs sets (both t u) a m =
    (in-append a (at sets t ++ at sets u) (product (at sets t) (at sets u))).1
    (elim m [ inl k ↦ inl ((in-append a (at sets t) (at sets u)).1 k) | inr k ↦ inr (in-product (at sets t) (at sets u) a k) ])
in-made eqs sets (joint t u) a m = in-product (at sets t) (at sets u) a m
in-made eqs sets (through f t) a m = in-spread f (at sets t) m.source a m.there m.gives

-- A shape that gives at least what another gives: the same, one in place of nothing, both sets beside the product, or through a
-- function that gives more.
pub data Grown : Shape → Shape → Type 0 where
  alike : (s : Shape) → Grown s s
  filled : (s : Shape) → Grown (leaf []) s
  widened : (t u : ℕ) → Grown (joint t u) (both t u)
  fuller : (f g : Label → List Label) (t : ℕ) → ((a b : Label) → b ∈ f a → b ∈ g a) → Grown (through f t) (through g t)

abbrev pub Inside : Family → Family → Type 0
Inside P Q = (n : ℕ) (a : Label) → P n a → Q n a

pub sum-grows : {P Q P' Q' : Label → Type 0} {c : Label} → ((a : Label) → P a → P' a) → ((a : Label) → Q a → Q' a) → Sum P Q c → Sum P' Q' c
sum-grows p q x = record { left = x.left; right = x.right; in_left = p x.left x.in_left; in_right = q x.right x.in_right; adds = x.adds }

made_alike : (P Q P' Q' : Family) → Inside P P' → Inside Q Q' → (s : Shape) (a : Label) → Made P Q s a → Made P' Q' s a
made_alike P Q P' Q' p q (leaf s) a m = m
made_alike P Q P' Q' p q (reference e) a m = p e a m
made_alike P Q P' Q' p q (one t) a m = q t a m
made_alike P Q P' Q' p q (either t u) a m = elim m [ inl k ↦ inl (q t a k) | inr k ↦ inr (q u a k) ]
made_alike P Q P' Q' p q (both t u) a m =
    elim m [ inl k ↦ inl (elim k [ inl l ↦ inl (q t a l) | inr l ↦ inr (q u a l) ]) | inr k ↦ inr (sum-grows (q t) (q u) k) ]
made_alike P Q P' Q' p q (joint t u) a m = sum-grows (q t) (q u) m
made_alike P Q P' Q' p q (through f t) a m = record { source = m.source; there = q t m.source m.there; gives = m.gives }

pub made-grows : (P Q P' Q' : Family) → Inside P P' → Inside Q Q' → {s s' : Shape} → Grown s s' → (a : Label) → Made P Q s a → Made P' Q' s' a
made-grows P Q P' Q' p q (alike s) a m = made_alike P Q P' Q' p q s a m
made-grows P Q P' Q' p q (filled s) a m = absurd m
made-grows P Q P' Q' p q (widened t u) a m = inr (sum-grows (q t) (q u) m)
made-grows P Q P' Q' p q (fuller f g t h) a m =
    record { source = m.source; there = q t m.source m.there; gives = h m.source a m.gives }

-- A shape makes the same of operands and equations that are the same.
abbrev pub Same : List (List Label) → List (List Label) → ℕ → Type 0
Same sets sets' t = at sets t ≡ at sets' t

abbrev pub SameFor : List (List Label) → List (List Label) → List (List Label) → List (List Label) → Shape → Type 0
SameFor eqs eqs' sets sets' (leaf s) = Unit {0}
SameFor eqs eqs' sets sets' (reference e) = Same eqs eqs' e
SameFor eqs eqs' sets sets' (one t) = Same sets sets' t
SameFor eqs eqs' sets sets' (either t u) = Same sets sets' t × Same sets sets' u
SameFor eqs eqs' sets sets' (both t u) = Same sets sets' t × Same sets sets' u
SameFor eqs eqs' sets sets' (joint t u) = Same sets sets' t × Same sets sets' u
SameFor eqs eqs' sets sets' (through f t) = Same sets sets' t

pub made-same : (eqs eqs' sets sets' : List (List Label)) (s : Shape) → SameFor eqs eqs' sets sets' s → made eqs sets s ≡ made eqs' sets' s
made-same eqs eqs' sets sets' (leaf s) h = refl
made-same eqs eqs' sets sets' (reference e) h = h
made-same eqs eqs' sets sets' (one t) h = h
made-same eqs eqs' sets sets' (either t u) h = ap₂ {C = List Label} ◌++◌ h.0 h.1
made-same eqs eqs' sets sets' (both t u) h = ap₂ {C = List Label} (λ x y. x ++ y ++ product x y) h.0 h.1
made-same eqs eqs' sets sets' (joint t u) h = ap₂ product h.0 h.1
made-same eqs eqs' sets sets' (through f t) h = ap (spread f) h

-- Sets that are the same below a number are so for a shape whose operands are.
pub same-below : (eqs sets sets' : List (List Label)) (n : ℕ) → ((t : ℕ) → t < n → Same sets sets' t) → (s : Shape) → Below n s
    → SameFor eqs eqs sets sets' s
same-below eqs sets sets' n h (leaf s) b = tt
same-below eqs sets sets' n h (reference e) b = refl
same-below eqs sets sets' n h (one t) b = h t b
same-below eqs sets sets' n h (either t u) b = (h t b.0, h u b.1)
same-below eqs sets sets' n h (both t u) b = (h t b.0, h u b.1)
same-below eqs sets sets' n h (joint t u) b = (h t b.0, h u b.1)
same-below eqs sets sets' n h (through f t) b = h t b

-- The shape of a term depends on no more of a description than its number of names and, of a sync, what its operands are built of.
pub shape-other : (d d' : Description) → names d ≡ names d' → (t : Term) → NoSync t → shape d t ≡ shape d' t
shape-other d d' e (act a) o = ap (λ (n : ℕ). leaf (single n a ∷ [])) e
shape-other d d' e tau o = ap (λ (n : ℕ). leaf (empty n ∷ [])) e
shape-other d d' e delta o = refl
shape-other d d' e (ref x) o = refl
shape-other d d' e (sum t) o = refl
shape-other d d' e (cond t) o = refl
shape-other d d' e (choice t u) o = refl
shape-other d d' e (ifelse t u) o = refl
shape-other d d' e (seq t u) o = refl
shape-other d d' e (merge t u) o = refl
shape-other d d' e (lmerge t u) o = refl
shape-other d d' e (sync t u) o = absurd o
shape-other d d' e (wrap p t) o = ap (λ (n : ℕ). through (image n p) t) e

pub shape_same : (d d' : Description) → names d ≡ names d' → ((t : ℕ) → is_multi_action d t ≡ is_multi_action d' t) → (t : Term) → shape d t ≡ shape d' t
shape_same d d' e m t = same (sync-or-other t)
  where
    same : {x : Term} → SyncOrOther x → shape d x ≡ shape d' x
    same (is-sync t u) = ap₂ {C = Shape} (λ (a b : Bool). sync_shape (a && b) t u) (m t) (m u)
    same (other x o) = shape-other d d' e x o
