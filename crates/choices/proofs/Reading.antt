-- Rules as they are read from a list of labels: two labels each, the last rule first. What they give does not depend on their order.
-- Assumes nothing.
use mathlib.Core.Path.{◌≡◌, refl, sym, ap, ◌∙◌}
use mathlib.Core.Logic.{inl, inr}
use mathlib.Core.List.{List, [], ◌∷◌, ◌++◌, map, map-append, flat_map}
use Prim.Native.Nat.{ℕ, suc, ◌+◌}
use native.Mathlib.Omega.{arith}
use lib.ListN.{length}
use Rattle.meaning.specs.Labels.{number, single}
use Rattle.meaning.specs.Sets.{◌∈◌}
use Rattle.meaning.specs.Descriptions.{Rule}
use Rattle.meaning.proofs.Members.{in-append}
use Rattle.areas.proofs.Entries.{rule_labels}
use Rattle.rules.specs.Rules.{Exchange, exchange_at, exchanges_before, exchanges_in}
use Rattle.choices.specs.Following.{sides}

-- A list from its last entry to its first has the same entries.
pub backwards : {A : Type 0} → List A → List A
backwards [] = []
backwards (x ∷ xs) = backwards xs ++ (x ∷ [])

pub backwards-in : {A : Type 0} (xs : List A) (x : A) → x ∈ backwards xs → x ∈ xs
unfolding backwards
backwards-in {A = A} [] x m = elim m [ ]
backwards-in (y ∷ xs) x m = elim ((in-append x (backwards xs) (y ∷ [])).0 m) [
  | inl k ↦ inr (backwards-in xs x k)
  | inr k ↦ elim k [ inl e ↦ inl e | inr j ↦ absurd j ]
]

pub in-backwards : {A : Type 0} (xs : List A) (x : A) → x ∈ xs → x ∈ backwards xs
unfolding backwards
in-backwards {A = A} [] x x3 = elim x3 [ ]
in-backwards (y ∷ xs) x (inl e) = (in-append x (backwards xs) (y ∷ [])).1 (inr (inl e))
in-backwards (y ∷ xs) x (inr m) = (in-append x (backwards xs) (y ∷ [])).1 (inl (in-backwards xs x m))

backwards-map : {A B : Type 0} (f : A → B) (xs : List A) → backwards (map f xs) ≡ map f (backwards xs)
unfolding backwards
backwards-map f [] = refl
backwards-map {B = B} f (x ∷ xs) =
    ap (λ (l : List B). l ++ (f x ∷ [])) (backwards-map f xs) ∙ sym (map-append f (backwards xs) (x ∷ []))

-- the first rule of the list is read last
first-last : (r : Exchange) (ls : List ℕ) (rs : List Exchange)
    → exchanges_before (r.left ∷ r.right ∷ ls) (suc (suc (length (flat_map sides rs)))) ≡ exchanges_before ls (length (flat_map sides rs)) ++ (r ∷ [])
unfolding exchanges_before flat_map
first-last r ls [] = refl
first-last r ls (q ∷ rs) =
    let n = length (flat_map sides rs) in
    let e : suc (suc n) + 1 ≡ suc (suc (n + 1)) = omega arith in
    rw e (ap (λ (l : List Exchange). exchange_at ls n ∷ l) (first-last r ls rs))

pub exchanges-read : (rs : List Exchange) → exchanges_in (flat_map sides rs) ≡ backwards rs
unfolding exchanges_before flat_map backwards
exchanges-read [] = refl
exchanges-read (r ∷ rs) = first-last r (flat_map sides rs) rs ∙ ap (λ (l : List Exchange). l ++ (r ∷ [])) (exchanges-read rs)

-- A rule of a description as it is stored.
abbrev pub exchange : ℕ → Rule → Exchange
exchange names r = record { left = number r.left; right = number (single names r.right) }

pub rules-stored : (names : ℕ) (rs : List Rule) → flat_map sides (map (exchange names) rs) ≡ rule_labels names rs
unfolding flat_map rule_labels
rules-stored names [] = refl
rules-stored names (r ∷ rs) =
    ap (λ (ls : List ℕ). number r.left ∷ number (single names r.right) ∷ ls) (rules-stored names rs)

pub rules-read : (names : ℕ) (rs : List Rule) → exchanges_in (rule_labels names rs) ≡ map (exchange names) (backwards rs)
rules-read names rs =
    ap (λ (ls : List ℕ). exchanges_in ls) (sym (rules-stored names rs)) ∙ exchanges-read (map (exchange names) rs) ∙ backwards-map (exchange names) rs
