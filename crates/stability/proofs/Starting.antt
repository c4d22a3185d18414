-- Before the first round there is nothing: rows of zeros stand for empty sets and for nothing new.
-- Assumes nothing.
use mathlib.Core.Path.{◌≡◌, refl, sym, ap}
use mathlib.Core.List.{List, [], map}
use Prim.Native.Nat.{ℕ, zero, suc, ◌+◌, ◌*◌, ◌≤◌, min}
use native.Mathlib.Nat.{not-suc-le-zero}
use native.Mathlib.Omega.{arith}
use lib.ListN.{length, get_or, replicate, length-replicate}
use Rattle.meaning.specs.Labels.{number}
use Rattle.meaning.specs.Descriptions.{Description, all, names, term_count}
use Rattle.meaning.specs.Legal.{Legal}
use Rattle.meaning.specs.Rounds.{round_sets}
use Rattle.meaning.specs.Limits.{total}
use Rattle.syncs.specs.Merges.{SyncsJoin}
use Rattle.extents.specs.Extents.{part_at}
use Rattle.extents.proofs.Rows.{words-none}
use Rattle.layout.specs.Layout.{half_of}
use Rattle.layout.proofs.Stands.{standing-start, standing-as}
use Rattle.deltas.proofs.Counting.{mixed-none, labels-start}
use Rattle.advances.specs.Advances.{Logged, Midway}
use Rattle.stability.proofs.Turning.{small-few}

zero-at : (count i : ℕ) → ◌≡◌ {A = ℕ} (get_or (replicate count 0) i 0) 0
zero-at zero i = refl
zero-at (suc count) zero = refl
zero-at (suc count) (suc i) = zero-at count i

nothing-logged : (places i : ℕ) (log : List ℕ) → Logged log 0 (part_at (replicate places 0) i) []
nothing-logged places i log =
    let p = part_at (replicate places 0) i in
    let from : p.from ≡ 0 = zero-at places (2 * i) in
    let to : p.to ≡ 0 = zero-at places (2 * i + 1) in
    record { words = words-none p log (omega arith); upright = omega arith; before = omega arith }

pub midway_start : (d : Description) (count places : ℕ) (work log out : List ℕ) → Legal d all → SyncsJoin d → 2 * term_count d + 2 ≤ count → 224 ≤ places
    → length log ≤ half_of work → min 1024 (length log) ≤ length out → Midway d 0 0 (replicate count 0) (replicate places 0) work log out 0
unfolding round_sets total
midway_start d count places work log out legal joins few long halves room = record {
  legal = legal;
  joins = joins;
  stands = standing-as (standing-start (term_count d) count work few) (λ t h. sym (ap (map number) (mixed-none d 0 t)));
  counted = sym (labels-start d 0);
  within = omega arith;
  halves = halves;
  room = room;
  rows = rw (length-replicate {A = ℕ} places 0) long;
  fresh = λ t h. absurd (not-suc-le-zero h);
  refs = λ e h. nothing-logged places _ log;
  few = small-few (length log) (names d) (round_sets d 0) (λ t h. absurd (not-suc-le-zero h)) (omega arith);
  small = λ t h. absurd (not-suc-le-zero h);
}
