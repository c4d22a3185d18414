-- What is new in the sets of a round.
-- Assumes nothing.
use mathlib.Core.Path.{◌≡◌, ap, ◌∙◌}
use mathlib.Core.Logic.{◌⊎◌, ◌↔◌}
use mathlib.Core.List.{List, map}
use Prim.Native.Nat.{ℕ, suc, ◌+◌}
use native.Mathlib.Omega.{arith}
use lib.ListN.{length}
use Rattle.meaning.specs.Labels.{Label, number}
use Rattle.meaning.specs.Sets.{◌∈◌, at, Rising, ascending}
use Rattle.meaning.specs.Descriptions.{Description}
use Rattle.meaning.specs.Rounds.{round_sets}
use Rattle.meaning.proofs.Order.{◌≺◌, ≺-irrefl, ≺-trans}
use Rattle.meaning.proofs.Ascent.{Within, sorted-once, once-count}
use Rattle.meaning.proofs.Members.{Ascending}
use Rattle.meaning.proofs.Growth.{round-grows, round-ascends}
use Rattle.sets.proofs.Refinement.{AllPack}
use Rattle.merging.specs.Joining.{joined}
use Rattle.deltas.specs.Deltas.{less_labels, arrived}
use Rattle.deltas.proofs.Differences.{in-less, less-or-known, less-ascends, ascending-itself, Adds, adds-less, less-length}
use Rattle.deltas.proofs.Numbers.{less-joined, less-rising, known-rising, less-apart}

pub round-ascending : (d : Description) (k t : ℕ) → ascending (at (round_sets d k) t) ≡ at (round_sets d k) t
round-ascending d k t = ascending-itself (at (round_sets d k) t) (round-ascends d k t)

module _ (d : Description) (k t : ℕ) where
  abbrev before : List Label
  before = at (round_sets d k) t

  abbrev now : List Label
  now = at (round_sets d (suc k)) t

  pub in-arrived : (a : Label) → (a ∈ arrived d (suc k) t) ↔ ((a ∈ now) × (a ∈ before → ⊥))
  in-arrived a = in-less now before a

  pub arrived-or-before : (a : Label) → a ∈ now → (a ∈ arrived d (suc k) t) ⊎ (a ∈ before)
  arrived-or-before a m = less-or-known now before a m

  pub arrived-within : Within (arrived d (suc k) t) now
  arrived-within a m = ((in-arrived a).0 m).0

  pub arrived-ascends : Ascending (arrived d (suc k) t)
  arrived-ascends = less-ascends now before (round-ascends d (suc k) t)

  pub arrived-length : length now ≡ length before + length (arrived d (suc k) t)
  arrived-length = less-length before now (round-ascends d k t) (round-ascends d (suc k) t) (round-grows d k t)

  -- where as many labels are new as there are, all are
  pub all_new : length (arrived d (suc k) t) ≡ length now → Within now (arrived d (suc k) t)
  all_new e =
      (once-count (arrived d (suc k) t) now (sorted-once ◌≺◌ ≺-irrefl ≺-trans (arrived d (suc k) t) arrived-ascends) arrived-within).1
      (omega arith)

  -- What makes this round's set of that of the round before has all that is new.
  pub adds-arrived : (R : List Label) → Adds R before now → less_labels (ascending R) before ≡ arrived d (suc k) t
  adds-arrived R x = adds-less R before now x ∙ ap (λ (s : List Label). less_labels s before) (round-ascending d (suc k) t)

  module _ (names : ℕ) (p : AllPack names now) where
    pub before-rising : Rising (map number before)
    before-rising = known-rising names before now (round-ascends d k t) (round-ascends d (suc k) t) (round-grows d k t) p

    pub arrived-rising : Rising (map number (arrived d (suc k) t))
    arrived-rising = less-rising names before now (round-ascends d k t) (round-ascends d (suc k) t) (round-grows d k t) p

    pub arrived-apart : (v : ℕ) → v ∈ map number before → v ∈ map number (arrived d (suc k) t) → ⊥
    arrived-apart = less-apart names before now (round-ascends d k t) (round-ascends d (suc k) t) (round-grows d k t) p

    pub arrived-joined : joined (map number before) (map number (arrived d (suc k) t)) ≡ map number now
    arrived-joined = less-joined names before now (round-ascends d k t) (round-ascends d (suc k) t) (round-grows d k t) p
