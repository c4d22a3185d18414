-- Operators over two sides: any operator over a choice; over a merge, the maps that keep the empty label and sums, and what acts
-- on labels like them. The laws ask nothing of the sets.
-- Assumes nothing.
use mathlib.Core.Path.{◌≡◌, refl, sym, ap, ap₂, subst, ◌∙◌, ◌≡⟨◌⟩◌, ◌∎}
use mathlib.Core.Logic.{inl, inr, ◌↔◌}
use mathlib.Core.Bool.{Bool}
use mathlib.Core.List.{List, [], ◌∷◌, ◌++◌, append_assoc}
use Prim.Native.Nat.{ℕ}
use lib.Dec.{T}
use Rattle.meaning.specs.Labels.{Label, plus, clear, without, renamed}
use Rattle.meaning.specs.Sets.{◌∈◌, ascending, spread, keep, turn, product}
use Rattle.meaning.specs.Descriptions.{Operator}
use Rattle.meaning.specs.Rounds.{target, image}
use Rattle.meaning.specs.Laws.{under, wrapped, chosen, merged, synced, Keeps, ActionByAction, blocks, hides, renames}
use Rattle.meaning.proofs.Ascent.{Within}
use Rattle.meaning.proofs.Members.{Sum, in-append, in-spread, in-spread→, in-product, in-product→, in-keep, in-turn, in-ascending, same_set}
use Rattle.meaning.proofs.Filters.{clear-plus}
use Rattle.meaning.proofs.Maps.{without-keeps, renamed_keeps}
use Rattle.meaning.proofs.Rows.{in-under, in-under→}

-- What is made of more labels holds what is made of fewer; so it depends on the labels, and not on how they are listed.
in_order : (s : List Label) → Within s (ascending s)
in_order s a = (in-ascending s a).1

from-order : (s : List Label) → Within (ascending s) s
from-order s a = (in-ascending s a).0

spread-grows : (f : Label → List Label) (s s' : List Label) → Within s s' → Within (spread f s) (spread f s')
spread-grows f s s' w b m = let x = in-spread→ f s b m in in-spread f s' x.source b (w x.source x.there) x.gives

append-grows : (s s' t t' : List Label) → Within s s' → Within t t' → Within (s ++ t) (s' ++ t')
append-grows s s' t t' w v a m = (in-append a s' t').1 (elim ((in-append a s t).0 m) [ inl k ↦ inl (w a k) | inr k ↦ inr (v a k) ])

under-set : (f : Label → List Label) (s : List Label) → under f (ascending s) ≡ under f s
under-set f s =
    same_set (spread f (ascending s)) (spread f s) (spread-grows f (ascending s) s (from-order s)) (spread-grows f s (ascending s) (in_order s))

chosen-sets : (s t : List Label) → chosen (ascending s) (ascending t) ≡ chosen s t
chosen-sets s t =
    same_set (ascending s ++ ascending t) (s ++ t) (append-grows (ascending s) s (ascending t) t (from-order s) (from-order t))
    (append-grows s (ascending s) t (ascending t) (in_order s) (in_order t))

-- Any operator spreads over two sides of which one steps.
spread-append : (f : Label → List Label) (s t : List Label) → spread f (s ++ t) ≡ spread f s ++ spread f t
unfolding spread
spread-append f [] t = refl
spread-append f (a ∷ s) t = ap (λ (r : List Label). f a ++ r) (spread-append f s t) ∙ sym (append_assoc (f a) (spread f s) (spread f t))

under-append : (f : Label → List Label) (s t : List Label) → under f (s ++ t) ≡ chosen (under f s) (under f t)
under-append f s t = ap ascending (spread-append f s t) ∙ sym (chosen-sets (spread f s) (spread f t))

pub spread-choice : (names : ℕ) (o : Operator) (s t : List Label) → wrapped names o (chosen s t) ≡ chosen (wrapped names o s) (wrapped names o t)
spread-choice names o s t = under-set (image names o) (s ++ t) ∙ under-append (image names o) s t

-- What makes of a sum just the sums of what it makes of each label spreads over two sides that step at once, and over a merge.
abbrev Multiplies : (Label → List Label) → Type 0
Multiplies f = (a b c : Label) → (c ∈ f (plus a b)) ↔ Sum (λ x. x ∈ f a) (λ y. y ∈ f b) c

module _ (f : Label → List Label) (multiplies : Multiplies f) where
  under-product : (s t : List Label) → under f (product s t) ≡ synced (under f s) (under f t)
  under-product s t = same_set (spread f (product s t)) (product (under f s) (under f t)) there back
    where
      there : Within (spread f (product s t)) (product (under f s) (under f t))
      there c m =
          let x = in-spread→ f (product s t) c m in
          let y = in-product→ s t x.source x.there in
          let z = (multiplies y.left y.right c).0 (subst (λ (a : Label). c ∈ f a) y.adds x.gives) in
          in-product (under f s) (under f t) c
          (record {
            left = z.left;
            right = z.right;
            in_left = in-under f s y.left z.left y.in_left z.in_left;
            in_right = in-under f t y.right z.right y.in_right z.in_right;
            adds = z.adds;
          })

      back : Within (product (under f s) (under f t)) (spread f (product s t))
      back c m =
          let x = in-product→ (under f s) (under f t) c m in
          let l = in-under→ f s x.left x.in_left in
          let r = in-under→ f t x.right x.in_right in
          in-spread f (product s t) (plus l.source r.source) c
          (in-product s t (plus l.source r.source)
          (record { left = l.source; right = r.source; in_left = l.there; in_right = r.there; adds = refl }))
          ((multiplies l.source r.source c).1
          (record { left = x.left; right = x.right; in_left = l.gives; in_right = r.gives; adds = x.adds }))

  under-merged : (s t : List Label) → under f (merged s t) ≡ merged (under f s) (under f t)
  under-merged s t =
      let s' = under f s in
      let t' = under f t in
      under f (merged s t)
      ≡⟨ under-set f (s ++ t ++ product s t) ⟩ under f (s ++ t ++ product s t)
      ≡⟨ under-append f (s ++ t) (product s t) ⟩ chosen (under f (s ++ t)) (under f (product s t))
      ≡⟨ ap₂ chosen (under-append f s t) (under-product s t) ⟩ chosen (chosen s' t') (synced s' t')
      ≡⟨ chosen-sets (s' ++ t') (product s' t') ⟩ merged s' t' ∎

-- A map of labels that keeps the empty label and sums does; so does a filter that passes a sum if it passes both labels.
turn-multiplies : (names : ℕ) (f : Label → Label) → Keeps names f → Multiplies (turn f)
turn-multiplies names f keeps a b c = (
  λ m. record {
    left = f a;
    right = f b;
    in_left = (in-turn f a (f a)).1 refl;
    in_right = (in-turn f b (f b)).1 refl;
    adds = (in-turn f (plus a b) c).0 m ∙ keeps.sums a b;
  },
  λ x. (in-turn f (plus a b) c).1
      (x.adds ∙ ap₂ plus ((in-turn f a x.left).0 x.in_left) ((in-turn f b x.right).0 x.in_right) ∙ sym (keeps.sums a b)),
)

keep-multiplies : (p : Label → Bool) → ((a b : Label) → T (p (plus a b)) ↔ (T (p a) × T (p b))) → Multiplies (keep p)
keep-multiplies p both a b c = (
  λ m. let x = (in-keep p (plus a b) c).0 m in let t = (both a b).0 x.1 in
      record { left = a; right = b; in_left = (in-keep p a a).1 (refl, t.0); in_right = (in-keep p b b).1 (refl, t.1); adds = x.0 },
  λ x. let l = (in-keep p a x.left).0 x.in_left in let r = (in-keep p b x.right).0 x.in_right in
      (in-keep p (plus a b) c).1 (x.adds ∙ ap₂ plus l.0 r.0, (both a b).1 (l.1, r.1)),
)

-- The law of maps, as such.
pub map-merge : (names : ℕ) (f : Label → Label) → Keeps names f → (s t : List Label)
    → under (turn f) (merged s t) ≡ merged (under (turn f) s) (under (turn f) t)
map-merge names f keeps = under-merged (turn f) (turn-multiplies names f keeps)

-- Hide and rename are such maps; blocking is such a filter.
image-multiplies : (names : ℕ) {o : Operator} → ActionByAction o → Multiplies (image names o)
image-multiplies names (blocks ns) = keep-multiplies (clear ns) (clear-plus ns)
image-multiplies names (hides ns) = turn-multiplies names (without ns) (without-keeps names ns)
image-multiplies names (renames ps) = turn-multiplies names (renamed names (target ps)) (renamed_keeps names (target ps))

pub spread-merge : (names : ℕ) {o : Operator} → ActionByAction o → (s t : List Label)
    → wrapped names o (merged s t) ≡ merged (wrapped names o s) (wrapped names o t)
spread-merge names {o} alone = under-merged (image names o) (image-multiplies names alone)
