-- The labels of a row gone through one by one, with a memory that is kept from one to the next.
-- Assumes nothing.
use Rattle.std.specs.Prelude.{Result, Ok, Err}
use mathlib.Core.Path.{◌≡◌, ap, subst, ◌∙◌}
use mathlib.Core.List.{List}
use Prim.Native.Nat.{ℕ, ◌+◌, ◌<◌}
use native.Mathlib.Omega.{arith}
use lib.ListN.{length, get_or}
use Rattle.labels.specs.declared.Label.{Label}
use Rattle.labels.specs.Packing.{code, packed}
use Rattle.parts.specs.Parts.{set_at, laid, reach_of}
use Rattle.parts.proofs.LaidSets.{set_at-reach}
use Rattle.sets.specs.declared.TooLarge.{TooLarge}
use Rattle.sets.specs.Building.{Building, answer_of, each}
use Rattle.extents.proofs.RowWalks.{RowWalk, RowWalked, row-start, row-holds, row-large}
use Rattle.rules.specs.Rules.{exchanges_before, exchanges_in}
use Rattle.choices.specs.Following.{comes_of, closed}
use Rattle.exchanges.specs.Closing.{Closes}
use Rattle.exchanges.specs.Following.{Walking, Walked}
use Rattle.exchanges.proofs.Walking.{room_in, steady-closed, walked_as, walked_on}

-- What the labels from the i-th on give is to come; the set and the memory are as they are asked to be.
module _ (labels all ls before : List ℕ) (len end : ℕ) where
  abbrev step : ℕ → ℕ → List ℕ → Building
  step room = closed room all (exchanges_in ls)

  pub record Closing (states now : List ℕ) (count i : ℕ) : Type 0 where
    pub walk : RowWalk step labels len before end now count i
    pub walking : Walking count all ls now states

pub closing-start : {labels all ls before states : List ℕ} {len end : ℕ} → Walking len all ls before states → end ≡ length labels
    → Closing labels all ls before len end states before len 0
closing-start {len = len} x e = record { walk = row-start (omega (arith, x.within)) e; walking = x }

-- a label is read, and goes in with all that comes of it
module _ {labels all ls before : List ℕ} {len end : ℕ} {states now : List ℕ} {count i : ℕ}
    (x : Closing labels all ls before len end states now count i) (more : i < end) {label : Label} (read : label ≡ packed (get_or labels i 0))
    {place : ℕ} (whole : place ≡ length ls) {last later : List ℕ} {r : Result ℕ TooLarge}
    (f : Walked (comes_of all (exchanges_before ls place) (code label) (code label)) count all ls now last later r) where
  walked : Walked (comes_of all (exchanges_in ls) (code label) (code label)) count all ls now last later r
  walked = walked_as (ap (λ (n : ℕ). comes_of all (exchanges_before ls n) (code label) (code label)) whole) f

  pub closing-holds : {n : ℕ} → r ≡ Ok n → length later ≡ length states → Closing labels all ls before len end later last n (i + 1)
  closing-holds e long = record {
    walk = row-holds x.walk (λ room w. steady-closed room all (exchanges_in ls) w) more read walked.grown e;
    walking = walked_on
        (subst (Walked (comes_of all (exchanges_in ls) (code label) (code label)) count all ls now last later) e walked)
        x.walking long;
  }

  pub closing-large : r ≡ Err (record {}) → RowWalked x.walk last (Err (record {}))
  closing-large e = row-large x.walk (λ room w. steady-closed room all (exchanges_in ls) w) more read walked.grown e

-- the set as far as it lies in the words
pub closes-reached : (labels all ls : List ℕ) {len count : ℕ} {before after : List ℕ} {r : Result ℕ TooLarge} → count ≡ reach_of 0 len (length before)
    → Closes count labels all ls before after r → Closes len labels all ls before after r
closes-reached labels all ls {len} {count} {before} reached x =
    let e : set_at 0 count before ≡ set_at 0 len before = ap (λ (n : ℕ). set_at 0 n before) reached ∙ set_at-reach 0 len before in
    let build = each (closed (room_in before) all (exchanges_in ls)) labels in
    record { answer = x.answer ∙ ap (λ (s : List ℕ). answer_of (build s)) e; words = x.words ∙ ap (λ (s : List ℕ). laid 0 (build s).set before) e }
