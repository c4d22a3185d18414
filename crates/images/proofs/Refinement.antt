-- What each way without rules makes of the numbers of labels: the numbers of what the operators make of the labels.
-- Assumes nothing.
use Rattle.std.specs.Prelude.{Some}
use mathlib.Core.Path.{◌≡◌, refl, sym, ap₂, subst, ◌∙◌}
use mathlib.Core.Logic.{inl, inr, ◌↔◌}
use mathlib.Core.Bool.{Bool, true, false, ◌||◌}
use mathlib.Core.List.{List, [], ◌∷◌, ◌++◌, map}
use Prim.Native.Nat.{ℕ, ◌≤◌, ◌<◌}
use native.Mathlib.Omega.{arith}
use native.Mathlib.Decide.{dec_lt}
use borrow.Author.Tests.{eq-eqb, ne_eqb}
use lib.Dec.{T, eqb}
use Rattle.meaning.specs.Labels.{Label, size, number, is_tau, clear, without, renamed}
use Rattle.meaning.specs.Sets.{◌∈◌, member, Rising, ascending, spread, kept, keep, turn}
use Rattle.meaning.specs.Descriptions.{Pair}
use Rattle.meaning.specs.Rounds.{target, allowed}
use Rattle.meaning.specs.Legal.{Each, LegalLabel, LegalPair}
use Rattle.meaning.proofs.Digits.{number-injective}
use Rattle.meaning.proofs.Members.{in_map, in-map→, member→in, in→member}
use Rattle.meaning.proofs.Maps.{size-without, size-renamed, length_without, length-renamed}
use Rattle.labels.specs.Packing.{packed}
use Rattle.labels.proofs.Sizes.{number-zero}
use Rattle.areas.proofs.Entries.{label_numbers, pair_words, pairs_in-pair_words}
use Rattle.labels.proofs.Refinement.{Packs, packs-small}
use Rattle.names.proofs.Refinement.{clear-number, without-number, renamed-number}
use Rattle.sets.specs.Inserting.{present}
use Rattle.sets.specs.Building.{each}
use Rattle.sets.proofs.Ascent.{insert-present}
use Rattle.sets.proofs.Presence.{in_insert, in-present}
use Rattle.sets.proofs.Outcomes.{Offered, none, one, Anything, Result, taken-outcome}
use Rattle.sets.proofs.Refinement.{AllPack, each-outcome}
use Rattle.images.specs.declared.Way.{Way}
use Rattle.images.specs.declared.Way.TheVariants.{Copy, Block, Hide, Rename, Allow}
use Rattle.images.specs.Allowing.{allowed_in}
use Rattle.images.specs.Imaging.{pick_offer, offer_of, follows_rules, imaged}

-- A way that follows no rules: the other labels of the operand count for nothing.
pub way-outcome : (names room : ℕ) (way : Way) (list all : List ℕ) (gives : Label → List Label) → follows_rules way ≡ false
    → ((a : Label) → Packs names a → Offered names (offer_of way list (number a)) (gives a))
    → (l M : List Label) → AllPack names l → AllPack names M
    → Result names room (spread gives l ++ M) (each (imaged room way list all) (map number l) (map number (ascending M)))
way-outcome names room way list all gives d good l M p q =
    each-outcome names room Anything (λ K L w v i. tt) (imaged room way list all) gives
    (λ a N r s i. rw d (taken-outcome names room (good a r) N s)) l M p q tt

-- Each way.
pub copy-offers : {names : ℕ} (list : List ℕ) (a : Label) → Packs names a → Offered names (offer_of Copy list (number a)) (a ∷ [])
copy-offers list a p = one a p

kept-offers : {names : ℕ} (t : Bool) (a : Label) → Packs names a → Offered names (pick_offer t (Some (packed (number a)))) (kept t a)
kept-offers true a p = one a p
kept-offers false a p = none

pub block-offers : (names : ℕ) → names ≤ 24 → (ns : List ℕ) (a : Label) → Packs names a
    → Offered names (offer_of Block ns (number a)) (keep (clear ns) a)
block-offers names few ns a p = rw (clear-number names few ns a p) (kept-offers (clear ns a) a p)

pub hide-offers : (names : ℕ) → names ≤ 24 → (ns : List ℕ) (a : Label) → Packs names a
    → Offered names (offer_of Hide ns (number a)) (turn (without ns) a)
hide-offers names few ns a p =
    let h = size-without ns a in
    let k = p.few in
    rw (without-number names few ns a p) (one (without ns a) (record { wide = length_without ns a ∙ p.wide; few = omega arith }))

pub rename-offers : (names : ℕ) → names ≤ 24 → (ps : List Pair) → Each (LegalPair names) ps → Each (λ p. p.left < 32) ps
    → (a : Label) → Packs names a
    → Offered names (offer_of Rename (pair_words ps) (number a)) (turn (renamed names (target ps)) a)
rename-offers names few ps legal left a p =
    let h = size-renamed names (target ps) a 0 in
    let k = p.few in
    rw (pairs_in-pair_words ps left, renamed-number names ps a few legal p)
    (one (renamed names (target ps) a) (record { wide = length-renamed names (target ps) a 0; few = omega arith }))

-- Allow: found in the list, or tau. Of an ascending list that is what the list has, and tau.
eqb-zero : (m n : ℕ) → (m ≡ 0) ↔ (n ≡ 0) → eqb m 0 ≡ eqb n 0
eqb-zero m n h = elim (dec_lt 0 m) [
  | yes l ↦
      let z : n ≡ 0 → ⊥ = λ e. let k = h.1 e in omega arith in
      ne_eqb m 0 (λ e. omega arith) ∙ sym (ne_eqb n 0 z)
  | no l ↦ let e : m ≡ 0 = omega arith in eq-eqb m 0 e ∙ sym (eq-eqb n 0 (h.0 e))
]

-- the labels of a legal list pack
pub listed-packs : (names : ℕ) (ls : List Label) → Each (LegalLabel names) ls → AllPack names ls
listed-packs names [] h a x'' = elim x'' [ ]
listed-packs names (b ∷ ls) h a (inl e) = subst (Packs names) (sym e) (record { wide = h.0.0; few = h.0.2 })
listed-packs names (b ∷ ls) h a (inr m) = listed-packs names ls h.1 a m

-- a number that is found is put in where it stands already, so the list has it
found_in : (s : List ℕ) (w : ℕ) → Rising s → present s w ≡ true → w ∈ s
found_in s w r e = subst (λ (t : List ℕ). w ∈ t) (insert-present s w r e) ((in_insert w s w).1 (inl refl))

module _ (names : ℕ) (ls : List Label) (q : AllPack names ls) (r : Rising (map number ls)) (a : Label) (p : Packs names a) where
  member-number : present (map number ls) (number a) ≡ member a ls
  member-number = go (present (map number ls) (number a)) (member a ls) refl refl
    where
      go : (found there : Bool) → present (map number ls) (number a) ≡ found → member a ls ≡ there → found ≡ there
      go true true e f = refl
      go false false e f = refl
      go true false e f =
          let x = in-map→ number ls (number a) (found_in (map number ls) (number a) r e) in
          let b = q x.source x.there in
          let same = number-injective a x.source (packs-small p) (packs-small b) (p.wide ∙ sym b.wide) x.becomes in
          absurd (subst T f (in→member a ls (subst (λ (c : Label). c ∈ ls) (sym same) x.there)))
      go false true e f = sym e ∙ in-present (map number ls) (number a) r (in_map number ls a (member→in a ls (subst T (sym f) tt)))

  pub allowed-number : allowed_in (number a) (map number ls) ≡ allowed ls a
  unfolding allowed is_tau
  allowed-number = ap₂ ◌||◌ (sym (eqb-zero (size a) (number a) (number-zero a))) member-number

  pub allow-offers : Offered names (offer_of Allow (label_numbers ls) (number a)) (keep (allowed ls) a)
  allow-offers = rw allowed-number (kept-offers (allowed ls a) a p)
