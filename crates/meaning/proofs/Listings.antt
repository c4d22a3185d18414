-- What sets within the limits hold, and an answer lists: labels with a count for each name and at most 31 actions; at most 1,024 are listed.
-- Assumes nothing.
use mathlib.Core.Path.{ap}
use mathlib.Core.Bool.{Bool, true, false}
use mathlib.Core.Logic.{inl, inr}
use mathlib.Core.List.{List, [], ◌∷◌}
use Prim.Native.Nat.{ℕ, zero, suc, ◌≤◌}
use native.Mathlib.Omega.{arith}
use native.Mathlib.Decide.{dec_lt}
use lib.Dec.{T}
use lib.ListN.{length, length-append}
use Rattle.meaning.specs.Labels.{Label}
use Rattle.meaning.specs.Sets.{◌∈◌, at, spread, kept, keep}
use Rattle.meaning.specs.Descriptions.{Order, Description, names}
use Rattle.meaning.specs.Rounds.{round_sets, InSet}
use Rattle.meaning.specs.Limits.{some_over, PassesLimit}
use Rattle.meaning.specs.Answers.{Outcome, too_large, listed, Lists, cut, admits}
use Rattle.meaning.specs.Widening.{Listable}
use Rattle.meaning.proofs.Lengths.{round-full}
use Rattle.meaning.proofs.Limits.{over-one, over-some, round-passes}
use Rattle.meaning.proofs.Answers.{no-long, stable→lists, answers-unique}

pub set-held : (d : Description) → (PassesLimit d → ⊥) → (t : ℕ) (a : Label) → InSet d t a → Listable (names d) a
set-held d within t a x =
    let sets = round_sets d x.round in
    (round-full d x.round t a x.there, no-long sets (λ over. within (round-passes d x.round (over-some sets over))) t a x.there)

pub listed-held : (d : Description) (o : Order) (k : ℕ) (ls : List Label) → Lists d o k ls → (a : Label) → a ∈ ls → Listable (names d) a
listed-held d o k ls l a m = set-held d l.within d.root a ((l.exactly a).0 m).0

short-kept : (b : Bool) (a : Label) → length (kept b a) ≤ 1
short-kept true a = omega arith
short-kept false a = omega arith

cut-shorter : (o : Order) (s : List Label) → length (cut o s) ≤ length s
unfolding cut spread
cut-shorter o [] = omega arith
cut-shorter o (a ∷ s) =
    let one = short-kept (admits o a) a in
    let rest = cut-shorter o s in
    omega (arith, length-append (kept (admits o a) a) (spread (keep (admits o)) s))

no-wide : (sets : List (List Label)) → (T (some_over sets) → ⊥) → (t : ℕ) → length (at sets t) ≤ 1024
no-wide [] h t = omega arith
no-wide (s ∷ sets) h zero = elim (dec_lt 1024 (length s)) [ yes l ↦ absurd (h (over-one s sets (inr (inl l)))) | no n ↦ omega arith ]
no-wide (s ∷ sets) h (suc t) = no-wide sets (λ x. h (over-one s sets (inr (inr x)))) t

abbrev listings : Outcome → ℕ
listings too_large = 0
listings (listed k ls) = length ls

pub listed-few : (d : Description) (o : Order) (k : ℕ) (ls : List Label) → Lists d o k ls → length ls ≤ 1024
listed-few d o zero ls l = absurd (omega (arith, l.counted.at_least))
listed-few d o (suc k) ls l =
    let set = at (round_sets d (suc k)) d.root in
    let same = answers-unique d o (listed (suc k) ls) (listed (suc k) (cut o set)) l
    (stable→lists d o k (λ j h. l.counted.smallest (suc j) (omega arith) (omega arith)) l.counted.stable (λ t. l.within (round-passes d (suc k) t))) in
    let wide = no-wide (round_sets d (suc k)) (λ t. l.within (round-passes d (suc k) (over-some (round_sets d (suc k)) t))) d.root in
    omega (arith, ap listings same, cut-shorter o set)
