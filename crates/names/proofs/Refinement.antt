-- What the functions on names make of the numbers of labels: the numbers of what `meaning` makes of the labels.
-- Assumes nothing.
use mathlib.Core.Path.{◌≡◌, refl, sym, ap, ap₂, ◌∙◌}
use mathlib.Core.Bool.{Bool, true, false}
use mathlib.Core.List.{List, [], ◌∷◌}
use Prim.Native.Nat.{ℕ, zero, suc, ◌+◌, ◌-◌, ◌%◌, ◌^◌, ◌≤◌, ◌<◌}
use native.Mathlib.Nat.{le_refl, mod-eq_of_lt, le_of_suc-le-suc, not-suc-le-zero}
use native.Mathlib.Omega.{arith}
use lib.Dec.{eqb}
use lib.ListN.{length, get_or, set, replicate}
use Rattle.meaning.specs.Labels.{Label, number, label_of, several, clear, without, renamed, renamed_from}
use Rattle.meaning.specs.Descriptions.{Pair}
use Rattle.meaning.specs.Rounds.{pick, target}
use Rattle.meaning.specs.Legal.{Each, LegalPair}
use Rattle.meaning.proofs.Bags.{number-plus}
use Rattle.meaning.proofs.Maps.{length-renamed, size-renamed}
use Rattle.labels.specs.Bags.{bag}
use Rattle.labels.proofs.Words.{number-empty, number-several}
use Rattle.labels.proofs.Refinement.{Packs, padded, count-padded, number-padded, number_fits, label_of-number-padded, bag-number}
use Rattle.names.specs.Names.{tabulated, targets}
use Rattle.names.proofs.Lists.{number-no-actions}

-- A label's zeros change nothing.
clear-padded : (more : ℕ) (a : Label) (ns : List ℕ) → clear ns (padded more a) ≡ clear ns a
unfolding clear
clear-padded more a [] = refl
clear-padded more a (n ∷ ns) = rw (count-padded more a n, clear-padded more a ns)

set-padded : (more : ℕ) (a : Label) (n : ℕ) → set (padded more a) n 0 ≡ padded more (set a n 0)
unfolding padded
set-padded zero [] n = refl
set-padded (suc more) [] zero = refl
set-padded (suc more) [] (suc n) = ap (λ (b : Label). 0 ∷ b) (set-padded more [] n)
set-padded more (x ∷ a) zero = refl
set-padded more (x ∷ a) (suc n) = ap (λ (b : Label). x ∷ b) (set-padded more a n)

without-padded : (more : ℕ) (a : Label) (ns : List ℕ) → without ns (padded more a) ≡ padded more (without ns a)
unfolding without
without-padded more a [] = refl
without-padded more a (n ∷ ns) = ap (λ (b : Label). set b n 0) (without-padded more a ns) ∙ set-padded more (without ns a) n

-- Names blocked or hidden.
pub clear-number : (names : ℕ) → names ≤ 24 → (ns : List ℕ) (a : Label) → Packs names a → clear ns (bag (number a)) ≡ clear ns a
clear-number names few ns a p = rw (bag-number names few a p) (clear-padded (25 - names) a ns)

pub without-number : (names : ℕ) → names ≤ 24 → (ns : List ℕ) (a : Label) → Packs names a → number (without ns (bag (number a))) ≡ number (without ns a)
without-number names few ns a p = rw (bag-number names few a p, without-padded (25 - names) a ns) (number-padded (25 - names) (without ns a))

-- Renaming. The map of pairs, read from the list of where each of the 24 names goes.
get_d-listed : (more first : ℕ) (f : ℕ → ℕ) (n : ℕ) → n < more → get_or (tabulated more first f) n 0 ≡ f (first + n)
unfolding tabulated
get_d-listed zero first f n h = absurd (not-suc-le-zero h)
get_d-listed (suc more) first f zero h = let e : first ≡ first + 0 = omega arith in ap f e
get_d-listed (suc more) first f (suc n) h =
    let e : suc first + n ≡ first + suc n = omega arith in get_d-listed more (suc first) f n (le_of_suc-le-suc h) ∙ ap f e

pub get_d-targets : (ps : List Pair) (n : ℕ) → n < 24 → get_or (targets ps) n 0 ≡ target ps n
get_d-targets ps n h = let e : 0 + n ≡ n = omega arith in get_d-listed 24 0 (target ps) n h ∙ ap (target ps) e

number-several-all : (names n x : ℕ) → names ≤ 24 → n < names → number (several 24 n x) ≡ number (several names n x)
number-several-all names n x l h = number-several 24 n x (omega arith) ∙ sym (number-several names n x h)

renamed-zeros : (first more : ℕ) (g : ℕ → ℕ) → number (renamed_from first 24 g (replicate more 0)) ≡ 0
unfolding renamed_from
renamed-zeros first zero g = number-empty 24
renamed-zeros first (suc more) g =
    number-plus (several 24 (g first) 0) (renamed_from (suc first) 24 g (replicate more 0))
    ∙ ap₂ ◌+◌ (number-no-actions 24 (g first)) (renamed-zeros (suc first) more g)

renamed-padded : (names more first : ℕ) (f g : ℕ → ℕ) (a : Label) → names ≤ 24
    → ((n : ℕ) → first ≤ n → n < first + length a → (g n ≡ f n) × (f n < names))
    → number (renamed_from first 24 g (padded more a)) ≡ number (renamed_from first names f a)
unfolding renamed_from padded
renamed-padded names more first f g [] l h = renamed-zeros first more g ∙ sym (number-empty names)
renamed-padded names more first f g (x ∷ a) l h =
    let here = h first (le_refl first) (omega arith) in
    number-plus (several 24 (g first) x) (renamed_from (suc first) 24 g (padded more a))
    ∙ ap₂ ◌+◌ (rw here.0 (number-several-all names (f first) x l here.1))
    (renamed-padded names more (suc first) f g a l (λ n p q. h n (omega arith) (omega arith)))
    ∙ sym (number-plus (several names (f first) x) (renamed_from (suc first) names f a))

pub target-legal : (names : ℕ) (ps : List Pair) → Each (LegalPair names) ps → (n : ℕ) → n < names → target ps n < names
unfolding target
target-legal names [] h n l = l
target-legal names (p ∷ ps) h n l = picked (eqb n p.left) h.0.1 (target-legal names ps h.1 n l)
  where
    picked : (t : Bool) → p.right < names → target ps n < names → pick t p.right (target ps n) < names
    picked true r m = r
    picked false r m = m

-- A label of at most 31 actions still has no more when it is renamed, and so fits.
pub renamed-number : (names : ℕ) (ps : List Pair) (a : Label) → names ≤ 24 → Each (LegalPair names) ps → Packs names a
    → number (renamed 24 (λ n. get_or (targets ps) n 0) (label_of 24 (number a))) % 2 ^ 124 ≡ number (renamed names (target ps) a)
renamed-number names ps a l h p =
    let few : Packs names (renamed names (target ps) a) =
    record { wide = length-renamed names (target ps) a 0; few = omega (arith, size-renamed names (target ps) a 0, p.few) } in
    let e = renamed-padded names (24 - names) 0 (target ps) (λ n. get_or (targets ps) n 0) a l
    (λ n q r. let s : n < names = omega (arith, p.wide) in (get_d-targets ps n (omega arith), target-legal names ps h n s)) in
    rw (label_of-number-padded names l 24 a l p, e) (mod-eq_of_lt (omega (arith, number_fits (renamed names (target ps) a) l few)))
