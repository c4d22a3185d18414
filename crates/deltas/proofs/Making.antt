-- What the new labels of a term's operands give is all that is new in its set, for each shape of term.
-- Assumes nothing.
use mathlib.Core.Path.{◌≡◌, sym, ap, ap₂, subst, ◌∙◌}
use mathlib.Core.Logic.{◌⊎◌, inl, inr, ◌↔◌}
use mathlib.Core.List.{List, [], ◌++◌, map}
use Prim.Native.Nat.{ℕ, zero, suc, ◌<◌}
use native.Mathlib.Omega.{arith}
use lib.ListN.{length}
use Rattle.meaning.specs.Labels.{Label, number}
use Rattle.meaning.specs.Sets.{◌∈◌, at, ascending, spread, product}
use Rattle.meaning.specs.Descriptions.{Description, term_at, body_at}
use Rattle.meaning.specs.Rounds.{Shape, leaf, reference, one, either, both, joint, through, shape, made, next, round_sets, equation_sets}
use Rattle.meaning.proofs.Bags.{plus_comm}
use Rattle.meaning.proofs.Ascent.{Within}
use Rattle.meaning.proofs.Members.{Sum, in-append, in-spread, in-spread→, in-product, in-product→, in-ascending}
use Rattle.meaning.proofs.Shapes.{Family, Made, In, alike, in-made, in-made→, made-grows, sum-grows}
use Rattle.meaning.proofs.Actions.{Operands}
use Rattle.meaning.proofs.Growth.{round-grows, round-length, at_body}
use Rattle.meaning.proofs.Least.{round_is}
use Rattle.sets.proofs.Refinement.{AllPack}
use Rattle.logs.specs.Logs.{less_of}
use Rattle.deltas.specs.Deltas.{less_labels, arrived}
use Rattle.deltas.proofs.Differences.{Adds}
use Rattle.deltas.proofs.Numbers.{less-number}
use Rattle.deltas.proofs.News.{round-ascending, arrived-or-before, arrived-within, all_new, adds-arrived}
use Rattle.deltas.proofs.Staying.{stays-none}

-- Labels that make this round's set of a term of that of the round before.
abbrev pub AddsTo : Description → (k n : ℕ) → List Label → Type 0
AddsTo d k n R = Adds R (at (round_sets d k) n) (at (round_sets d (suc k)) n)

-- What is logged of them is what is new; and this round's set packs if they do.
module _ (d : Description) (k n : ℕ) (R : List Label) (x : AddsTo d k n R) (m : ℕ) (p : AllPack m (at (round_sets d k) n)) (q : AllPack m R) where
  pub arrived-logged : less_of (map number (at (round_sets d k) n)) (map number (ascending R)) ≡ map number (arrived d (suc k) n)
  arrived-logged =
      less-number m (at (round_sets d k) n) p (round-ascending d k n) (ascending R) (λ a l. q a ((in-ascending R a).0 l))
      ∙ ap (map number) (adds-arrived d k n R x)

  pub now-packs : AllPack m (at (round_sets d (suc k)) n)
  now-packs a l = elim (x.back a l) [ inl h ↦ q a h | inr h ↦ p a h ]

-- nothing is added: nothing is new
pub none-added : (d : Description) (k n : ℕ) (R : List Label) → R ≡ [] → AddsTo d k n R → arrived d (suc k) n ≡ []
unfolding ascending spread
none-added d k n R e x =
    sym (adds-arrived d k n R x) ∙ ap (λ (s : List Label). less_labels (ascending s) (at (round_sets d k) n)) e

-- Every sum of labels of two sets of which one is new: what of the sums is enough.
pub record Mixing (A' A B' B X : List Label) : Type 0 where
  pub there : Within X (product A B)
  pub left : Within (product A' B) X
  pub right : Within (product B' A) X

turned : (s t : List Label) → Within (product s t) (product t s)
turned s t c m =
    let x = in-product→ s t c m in
    in-product t s c (record { left = x.right; right = x.left; in_left = x.in_right; in_right = x.in_left; adds = x.adds ∙ plus_comm x.left x.right })

within-product : (s t s' t' : List Label) → Within s s' → Within t t' → Within (product s t) (product s' t')
within-product s t s' t' w v c m = in-product s' t' c (sum-grows w v (in-product→ s t c m))

-- the sums with a new label of either set; and where the whole first set is new, those with its labels alone
pub mixing-both : (A' A B' B : List Label) → Within A' A → Within B' B → Mixing A' A B' B (product A' B ++ product B' A)
mixing-both A' A B' B w v = record {
  there = λ c m. elim ((in-append c (product A' B) (product B' A)).0 m) [
    | inl k ↦ within-product A' B A B w (λ b l. l) c k
    | inr k ↦ turned B A c (within-product B' A B A v (λ b l. l) c k)
  ];
  left = λ c m. (in-append c (product A' B) (product B' A)).1 (inl m);
  right = λ c m. (in-append c (product A' B) (product B' A)).1 (inr m);
}

pub mixing-all : (A' A B' B : List Label) → Within A' A → Within B' B → Within A A' → Mixing A' A B' B (product A' B)
mixing-all A' A B' B w v all = record {
  there = within-product A' B A B w (λ b l. l);
  left = λ c m. m;
  right = λ c m. turned B A' c (within-product B' A B A' v all c m);
}

pub mixing-same : (A' A B' B X X' : List Label) → Within X X' → Within X' X → Mixing A' A B' B X → Mixing A' A B' B X'
mixing-same A' A B' B X X' w v x = record {
  there = λ c m. x.there c (v c m);
  left = λ c m. w c (x.left c m);
  right = λ c m. w c (x.right c m);
}

-- So of two operands in a round; where as many labels of the first are new as it has, the sums with these are enough.
module _ (d : Description) (k t u : ℕ) where
  abbrev pub MixingNew : List Label → Type 0
  MixingNew X = Mixing (arrived d (suc k) t) (at (round_sets d (suc k)) t) (arrived d (suc k) u) (at (round_sets d (suc k)) u) X

  pub mixing-new : MixingNew (product (arrived d (suc k) t) (at (round_sets d (suc k)) u) ++ product (arrived d (suc k) u) (at (round_sets d (suc k)) t))
  mixing-new =
      mixing-both (arrived d (suc k) t) (at (round_sets d (suc k)) t) (arrived d (suc k) u) (at (round_sets d (suc k)) u) (arrived-within d k t)
      (arrived-within d k u)

  pub mixing-first : length (arrived d (suc k) t) ≡ length (at (round_sets d (suc k)) t)
      → MixingNew (product (arrived d (suc k) t) (at (round_sets d (suc k)) u))
  mixing-first e =
      mixing-all (arrived d (suc k) t) (at (round_sets d (suc k)) t) (arrived d (suc k) u) (at (round_sets d (suc k)) u) (arrived-within d k t)
      (arrived-within d k u) (all_new d k t e)

-- The bodies that a round looks at: of the round before, in which nothing was before round 0.
abbrev Older : Description → ℕ → Family
Older d zero e a = ⊥
Older d (suc j) e a = a ∈ at (round_sets d j) (body_at d e)

abbrev Newer : Description → ℕ → Family
Newer d k e a = a ∈ at (round_sets d k) (body_at d e)

newer-or-older : (d : Description) (k e : ℕ) (a : Label) → Newer d k e a → (a ∈ arrived d k (body_at d e)) ⊎ Older d k e a
unfolding round_sets
newer-or-older d zero e a m = absurd m
newer-or-older d (suc j) e a m = arrived-or-before d j (body_at d e) a m

arrived-newer : (d : Description) (k e : ℕ) (a : Label) → a ∈ arrived d k (body_at d e) → Newer d k e a
arrived-newer d zero e a m = absurd m
arrived-newer d (suc j) e a m = arrived-within d j (body_at d e) a m

-- Nothing is new in what a set is made of. A leaf gives all its labels in the first round, and none if it has none.
abbrev pub Quiet : Description → (k n : ℕ) → Shape → Type 0
Quiet d k n (leaf l) = (l ≡ []) ⊎ (0 < length (at (round_sets d k) n))
Quiet d k n (reference x) = arrived d k (body_at d x) ≡ []
Quiet d k n (one t) = arrived d (suc k) t ≡ []
Quiet d k n (either t u) = (arrived d (suc k) t ≡ []) × (arrived d (suc k) u ≡ [])
Quiet d k n (both t u) = (arrived d (suc k) t ≡ []) × (arrived d (suc k) u ≡ [])
Quiet d k n (joint t u) = (arrived d (suc k) t ≡ []) × (arrived d (suc k) u ≡ [])
Quiet d k n (through f t) = arrived d (suc k) t ≡ []

-- A shape that is built of other sets makes nothing of nothing.
abbrev IsBuilt : Shape → Type 0
IsBuilt (leaf s) = ⊥
IsBuilt (reference e) = Unit {0}
IsBuilt (one t) = Unit {0}
IsBuilt (either t u) = Unit {0}
IsBuilt (both t u) = Unit {0}
IsBuilt (joint t u) = Unit {0}
IsBuilt (through f t) = Unit {0}

made_nothing : (s : Shape) (a : Label) → IsBuilt s → Made (λ e b. ⊥) (λ t b. ⊥) s a → ⊥
made_nothing (leaf s) a h m = h
made_nothing (reference e) a h m = m
made_nothing (one t) a h m = m
made_nothing (either t u) a h m = elim m [ inl k ↦ k | inr k ↦ k ]
made_nothing (both t u) a h m = elim m [ inl k ↦ elim k [ inl l ↦ l | inr l ↦ l ] | inr k ↦ k.in_left ]
made_nothing (joint t u) a h m = m.in_left
made_nothing (through f t) a h m = m.there

module _ (d : Description) (first : Operands d) where
  -- The set of a term in a round, by what it is made of.
  module _ (n : ℕ) (s : Shape) (e : shape d (term_at d n) ≡ s) where
    set-made : (k : ℕ) → at (round_sets d (suc k)) n ≡ ascending (made (equation_sets d k) (round_sets d (suc k)) s)
    unfolding round_sets next
    set-made k =
        round_is d first (equation_sets d k) n ∙ ap (λ (f : Shape). ascending (made (equation_sets d k) (round_sets d (suc k)) f)) e

    in-set : (k : ℕ) (a : Label) → (a ∈ at (round_sets d (suc k)) n) ↔ Made (Newer d k) (In (round_sets d (suc k))) s a
    in-set k a =
        let eqs = equation_sets d k in
        let sets = round_sets d (suc k) in
        let body : (x : ℕ) → at eqs x ≡ at (round_sets d k) (body_at d x) = at_body d (round_sets d k) (round-length d k) in (
          λ m.
              made-grows (In eqs) (In sets) (Newer d k) (In sets) (λ x b l. subst (λ (r : List Label). b ∈ r) (body x) l) (λ t b l. l) (alike s) a
              (in-made→ eqs sets s a ((in-ascending (made eqs sets s) a).0 (subst (λ (r : List Label). a ∈ r) (set-made k) m))),
          λ m.
              subst (λ (r : List Label). a ∈ r) (sym (set-made k)) ((in-ascending (made eqs sets s) a).1
              (in-made eqs sets s a
              (made-grows (Newer d k) (In sets) (In eqs) (In sets) (λ x b l. subst (λ (r : List Label). b ∈ r) (sym (body x)) l) (λ t b l. l) (alike s) a m))),
        )

    in-before : (k : ℕ) (a : Label) → IsBuilt s → Made (Older d k) (In (round_sets d k)) s a → a ∈ at (round_sets d k) n
    unfolding round_sets
    in-before zero a h m = absurd (made_nothing s a h m)
    in-before (suc j) a h m = (in-set j a).1 m

  module _ (k n : ℕ) where
    abbrev sets : List (List Label)
    sets = round_sets d (suc k)

    abbrev new : ℕ → List Label
    new t = arrived d (suc k) t

    abbrev ByShape : Shape → Label → Type 0
    ByShape s a = Made (Newer d k) (In sets) s a

    abbrev ByShapeBefore : Shape → Label → Type 0
    ByShapeBefore s a = Made (Older d k) (In (round_sets d k)) s a

    -- what makes the shape is among the labels given, or was made of the sets of the round before
    adds-built : (s : Shape) → shape d (term_at d n) ≡ s → IsBuilt s → (R : List Label) → ((a : Label) → a ∈ R → ByShape s a)
        → ((a : Label) → ByShape s a → (a ∈ R) ⊎ ByShapeBefore s a) → AddsTo d k n R
    adds-built s e h R there back = record {
      there = λ a m. (in-set n s e k a).1 (there a m);
      back = λ a m. elim (back a ((in-set n s e k a).0 m)) [ inl l ↦ inl l | inr l ↦ inr (in-before n s e k a h l) ];
      within = round-grows d k n;
    }

    operand : (t : ℕ) (a : Label) → a ∈ at sets t → (a ∈ new t) ⊎ (a ∈ at (round_sets d k) t)
    operand t a m = arrived-or-before d k t a m

    sums : (t u : ℕ) (X : List Label) → MixingNew d k t u X → (c : Label) → Sum (In sets t) (In sets u) c
        → (c ∈ X) ⊎ Sum (In (round_sets d k) t) (In (round_sets d k) u) c
    sums t u X x c z = elim (operand t z.left z.in_left) [
      | inl l ↦ inl (x.left c (in-product (new t) (at sets u) c
          (record { left = z.left; right = z.right; in_left = l; in_right = z.in_right; adds = z.adds })))
      | inr l ↦ elim (operand u z.right z.in_right) [
        | inl r ↦ inl (x.right c (turned (at sets t) (new u) c (in-product (at sets t) (new u) c
            (record { left = z.left; right = z.right; in_left = z.in_left; in_right = r; adds = z.adds }))))
        | inr r ↦ inr (record { left = z.left; right = z.right; in_left = l; in_right = r; adds = z.adds })
      ]
    ]

    pub leaf-adds : (l : List Label) → shape d (term_at d n) ≡ leaf l → AddsTo d k n l
    leaf-adds l e = record {
      there = λ a m. (in-set n (leaf l) e k a).1 m;
      back = λ a m. inl ((in-set n (leaf l) e k a).0 m);
      within = round-grows d k n;
    }

    pub reference-adds : (x : ℕ) → shape d (term_at d n) ≡ reference x → AddsTo d k n (arrived d k (body_at d x))
    reference-adds x e =
        adds-built (reference x) e tt (arrived d k (body_at d x)) (λ a m. arrived-newer d k x a m) (λ a m. newer-or-older d k x a m)

    pub one-adds : (t : ℕ) → shape d (term_at d n) ≡ one t → AddsTo d k n (new t)
    one-adds t e = adds-built (one t) e tt (new t) (λ a m. arrived-within d k t a m) (λ a m. operand t a m)

    -- the new labels of either operand
    of_either : (t u : ℕ) (a : Label) → a ∈ (new t ++ new u) → (a ∈ at sets t) ⊎ (a ∈ at sets u)
    of_either t u a m = elim ((in-append a (new t) (new u)).0 m) [ inl l ↦ inl (arrived-within d k t a l) | inr l ↦ inr (arrived-within d k u a l) ]

    either-back : (t u : ℕ) (a : Label) → (a ∈ at sets t) ⊎ (a ∈ at sets u)
        → (a ∈ (new t ++ new u)) ⊎ ((a ∈ at (round_sets d k) t) ⊎ (a ∈ at (round_sets d k) u))
    either-back t u a (inl m) = elim (operand t a m) [ inl l ↦ inl ((in-append a (new t) (new u)).1 (inl l)) | inr l ↦ inr (inl l) ]
    either-back t u a (inr m) = elim (operand u a m) [ inl l ↦ inl ((in-append a (new t) (new u)).1 (inr l)) | inr l ↦ inr (inr l) ]

    pub either-adds : (t u : ℕ) → shape d (term_at d n) ≡ either t u → AddsTo d k n (new t ++ new u)
    either-adds t u e = adds-built (either t u) e tt (new t ++ new u) (λ a m. of_either t u a m) (λ a m. either-back t u a m)

    pub both-adds : (t u : ℕ) (X : List Label) → shape d (term_at d n) ≡ both t u → MixingNew d k t u X → AddsTo d k n (new t ++ new u ++ X)
    both-adds t u X e x = adds-built (both t u) e tt (new t ++ new u ++ X) there back
      where
        there : (a : Label) → a ∈ (new t ++ new u ++ X) → ByShape (both t u) a
        there a m = elim ((in-append a (new t ++ new u) X).0 m) [
          | inl l ↦ inl (of_either t u a l)
          | inr l ↦ inr (in-product→ (at sets t) (at sets u) a (x.there a l))
        ]

        back : (a : Label) → ByShape (both t u) a → (a ∈ (new t ++ new u ++ X)) ⊎ ByShapeBefore (both t u) a
        back a (inl m) = elim (either-back t u a m) [ inl l ↦ inl ((in-append a (new t ++ new u) X).1 (inl l)) | inr l ↦ inr (inl l) ]
        back a (inr m) = elim (sums t u X x a m) [ inl l ↦ inl ((in-append a (new t ++ new u) X).1 (inr l)) | inr l ↦ inr (inr l) ]

    pub joint-adds : (t u : ℕ) (X : List Label) → shape d (term_at d n) ≡ joint t u → MixingNew d k t u X → AddsTo d k n X
    joint-adds t u X e x =
        adds-built (joint t u) e tt X (λ a m. in-product→ (at sets t) (at sets u) a (x.there a m)) (λ a m. sums t u X x a m)

    pub through-adds : (f : Label → List Label) (t : ℕ) (R : List Label) → shape d (term_at d n) ≡ through f t → Within R (spread f (at sets t))
        → ((a : Label) → a ∈ spread f (at sets t) → (a ∈ R) ⊎ (a ∈ spread f (at (round_sets d k) t))) → AddsTo d k n R
    through-adds f t R e there back =
        adds-built (through f t) e tt R (λ a m. in-spread→ f (at sets t) a (there a m))
        (λ a m. elim (back a (in-spread f (at sets t) m.source a m.there m.gives)) [
          | inl l ↦ inl l
          | inr l ↦ inr (in-spread→ f (at (round_sets d k) t) a l)
        ])

    -- what a function makes of the new labels alone
    pub through-new : (f : Label → List Label) (t : ℕ) → shape d (term_at d n) ≡ through f t → AddsTo d k n (spread f (new t))
    through-new f t e =
        through-adds f t (spread f (new t)) e
        (λ a m. let x = in-spread→ f (new t) a m in in-spread f (at sets t) x.source a (arrived-within d k t x.source x.there) x.gives)
        (λ a m. let x = in-spread→ f (at sets t) a m in elim (operand t x.source x.there) [
          | inl l ↦ inl (in-spread f (new t) x.source a l x.gives)
          | inr l ↦ inr (in-spread f (at (round_sets d k) t) x.source a l x.gives)
        ])

    -- Then nothing is new in the set.
    leaf-stays : (l : List Label) → shape d (term_at d n) ≡ leaf l → 0 < length (at (round_sets d k) n) → arrived d (suc k) n ≡ []
    unfolding round_sets
    leaf-stays l e h = earlier k h
      where
        earlier : (j : ℕ) → 0 < length (at (round_sets d j) n) → arrived d (suc j) n ≡ []
        earlier zero h = absurd (omega arith)
        earlier (suc j) h = stays-none d (suc j) n (set-made n (leaf l) e (suc j) ∙ sym (set-made n (leaf l) e j))

    pub quiet-arrived : (s : Shape) → shape d (term_at d n) ≡ s → Quiet d k n s → arrived d (suc k) n ≡ []
    unfolding product spread
    quiet-arrived (leaf l) e (inl q) = none-added d k n l q (leaf-adds l e)
    quiet-arrived (leaf l) e (inr q) = leaf-stays l e q
    quiet-arrived (reference x) e q = none-added d k n (arrived d k (body_at d x)) q (reference-adds x e)
    quiet-arrived (one t) e q = none-added d k n (new t) q (one-adds t e)
    quiet-arrived (either t u) e q =
        none-added d k n (new t ++ new u) (ap₂ (λ (v w : List Label). v ++ w) q.0 q.1) (either-adds t u e)
    quiet-arrived (both t u) e q =
        let X = product (new t) (at sets u) ++ product (new u) (at sets t) in
        none-added d k n (new t ++ new u ++ X)
        (ap₂ (λ (v w : List Label). v ++ w ++ (product v (at sets u) ++ product w (at sets t))) q.0 q.1)
        (both-adds t u X e (mixing-new d k t u))
    quiet-arrived (joint t u) e q =
        let X = product (new t) (at sets u) ++ product (new u) (at sets t) in
        none-added d k n X (ap₂ (λ (v w : List Label). product v (at sets u) ++ product w (at sets t)) q.0 q.1)
        (joint-adds t u X e (mixing-new d k t u))
    quiet-arrived (through f t) e q = none-added d k n (spread f (new t)) (ap (spread f) q) (through-new f t e)
