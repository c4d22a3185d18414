-- Operators in a row: hiding or blocking twice, and two allow lists. The laws ask nothing of the sets.
-- Assumes nothing.
use mathlib.Core.Path.{◌≡◌, refl, sym, ap, subst, ◌∙◌}
use mathlib.Core.Logic.{◌↔◌}
use mathlib.Core.Bool.{Bool}
use mathlib.Core.List.{List}
use Prim.Native.Nat.{ℕ}
use lib.Dec.{T}
use Rattle.meaning.specs.Labels.{Label, empty, clear, without}
use Rattle.meaning.specs.Sets.{◌∈◌, spread, keep, turn}
use Rattle.meaning.specs.Descriptions.{Operator, block, hide, allow}
use Rattle.meaning.specs.Rounds.{allowed}
use Rattle.meaning.specs.Laws.{under, wrapped, Union, Common, InOne, both-hide, both-block, both-allow}
use Rattle.meaning.proofs.Bags.{size-empty}
use Rattle.meaning.proofs.Ascent.{Within}
use Rattle.meaning.proofs.Members.{Through, in-spread, in-spread→, in-keep, in-turn, in-ascending, same_set}
use Rattle.meaning.proofs.Filters.{tau-allowed, allowed-common, clear-union}
use Rattle.meaning.proofs.Maps.{without-twice}

-- The labels of a set that was made through a map of labels.
pub in-under→ : (f : Label → List Label) (s : List Label) (b : Label) → b ∈ under f s → Through f (λ a. a ∈ s) b
in-under→ f s b m = in-spread→ f s b ((in-ascending (spread f s) b).0 m)

pub in-under : (f : Label → List Label) (s : List Label) (a b : Label) → a ∈ s → b ∈ f a → b ∈ under f s
in-under f s a b m k = (in-ascending (spread f s) b).1 (in-spread f s a b m k)

-- Two in a row: if what the second makes of what the first makes of a label is what a third makes of it, so it is of sets.
module _ (f g h : Label → List Label) (as_one : (a b : Label) → (b ∈ h a) ↔ Through f (λ c. c ∈ g a) b) where
  in_a_row : (s : List Label) → under f (under g s) ≡ under h s
  in_a_row s = same_set (spread f (under g s)) (spread h s) there back
    where
      there : Within (spread f (under g s)) (spread h s)
      there b m =
          let x = in-spread→ f (under g s) b m in
          let y = in-under→ g s x.source x.there in
          in-spread h s y.source b y.there ((as_one y.source b).1 (record { source = x.source; there = y.gives; gives = x.gives }))

      back : Within (spread h s) (spread f (under g s))
      back b m =
          let x = in-spread→ h s b m in
          let y = (as_one x.source b).0 x.gives in
          in-spread f (under g s) y.source b (in-under g s x.source y.source x.there y.there) y.gives

turns-in-a-row : (f g h : Label → Label) → ((a : Label) → f (g a) ≡ h a) → (s : List Label) → under (turn f) (under (turn g) s) ≡ under (turn h) s
turns-in-a-row f g h same = in_a_row (turn f) (turn g) (turn h) (λ a b. (
  λ m. record { source = g a; there = (in-turn g a (g a)).1 refl; gives = (in-turn f (g a) b).1 ((in-turn h a b).0 m ∙ sym (same a)) },
  λ x. (in-turn h a b).1 ((in-turn f x.source b).0 x.gives ∙ ap f ((in-turn g a x.source).0 x.there) ∙ same a),
))

keeps-in-a-row : (p q r : Label → Bool) → ((a : Label) → T (r a) ↔ (T (p a) × T (q a))) → (s : List Label)
    → under (keep p) (under (keep q) s) ≡ under (keep r) s
keeps-in-a-row p q r both = in_a_row (keep p) (keep q) (keep r) (λ a b. (
  λ m. let x = (in-keep r a b).0 m in let t = (both a).0 x.1 in
      record { source = a; there = (in-keep q a a).1 (refl, t.1); gives = (in-keep p a b).1 (x.0, t.0) },
  λ x. let y = (in-keep q a x.source).0 x.there in let z = (in-keep p x.source b).0 x.gives in
      (in-keep r a b).1 (z.0 ∙ y.0, (both a).1 (subst (λ (c : Label). T (p c)) y.0 z.1, y.1)),
))

-- Hiding twice is hiding the names of both lists.
pub hidden-twice : (names : ℕ) (ns ms ks : List ℕ) → Union ns ms ks → (s : List Label)
    → wrapped names (hide ns) (wrapped names (hide ms) s) ≡ wrapped names (hide ks) s
hidden-twice names ns ms ks u = turns-in-a-row (without ns) (without ms) (without ks) (without-twice ns ms ks u)

-- Blocking twice is blocking the names of both lists.
pub blocked-twice : (names : ℕ) (ns ms ks : List ℕ) → Union ns ms ks → (s : List Label)
    → wrapped names (block ns) (wrapped names (block ms) s) ≡ wrapped names (block ks) s
blocked-twice names ns ms ks u = keeps-in-a-row (clear ns) (clear ms) (clear ks) (clear-union ns ms ks u)

-- Two allow lists in a row allow the labels that both list; and tau passes each.
pub allowed-twice : (names : ℕ) (ls ms ks : List Label) → Common ls ms ks → (s : List Label)
    → wrapped names (allow ls) (wrapped names (allow ms) s) ≡ wrapped names (allow ks) s
allowed-twice names ls ms ks c = keeps-in-a-row (allowed ls) (allowed ms) (allowed ks) (allowed-common ls ms ks c)

pub tau-passes : (names : ℕ) (ls : List Label) (s : List Label) → empty names ∈ s → empty names ∈ wrapped names (allow ls) s
tau-passes names ls s m =
    in-under (keep (allowed ls)) s (empty names) (empty names) m
    ((in-keep (allowed ls) (empty names) (empty names)).1 (refl, tau-allowed ls (empty names) (size-empty names)))

-- The three laws in one.
pub one-for-two : (names : ℕ) {o p q : Operator} → InOne o p q → (s : List Label) → wrapped names o (wrapped names p s) ≡ wrapped names q s
one-for-two names (both-hide {ns} {ms} {ks} u) = hidden-twice names ns ms ks u
one-for-two names (both-block {ns} {ms} {ks} u) = blocked-twice names ns ms ks u
one-for-two names (both-allow {ls} {ms} {ks} c) = allowed-twice names ls ms ks c
