-- A rule for `comm` in which results take part again. It was the set rule once, and is kept only for the theorem that it gives every
-- label that `comm` gives, and for an example of a label that it gives besides.
-- Assumes nothing.
use mathlib.Core.Path.{refl, sym, ap, subst}
use mathlib.Core.Logic.{inl, inr}
use mathlib.Core.List.{List, [], ◌∷◌, ◌++◌, flat_map}
use Prim.Native.Nat.{ℕ, zero, suc}
use lib.Dec.{T}
use Rattle.meaning.specs.Labels.{Label, size, single, plus, minus, inside, order}
use Rattle.meaning.specs.Sets.{◌∈◌, member, spread, keep, turn}
use Rattle.meaning.specs.Descriptions.{Rule, comm}
use Rattle.meaning.specs.Rounds.{fitting, communicated, image}
use Rattle.meaning.proofs.Bags.{plus_none, inside-plus}
use Rattle.meaning.proofs.Members.{in-append, in-flat_map→, in-spread, in-keep, in-turn, member→in, in→member}
use Rattle.meaning.proofs.Alphabets.{abcde, chained}
use Rattle.meaning.proofs.Operators.{replaced, set-aside, in-fitting, after}

-- what one application of any rule gives, and each label with all that follows from it by at most so many applications
unfoldable pub applied : ℕ → List Rule → Label → List Label
applied names [] a = []
applied names (r ∷ rs) a = spread (turn (replaced names r)) (keep (inside r.left) a) ++ applied names rs a

unfoldable pub fed_back : ℕ → ℕ → List Rule → Label → List Label
fed_back zero names rs a = a ∷ []
fed_back (suc more) names rs a = a ∷ spread (fed_back more names rs) (applied names rs a)

in-applied : (names : ℕ) (rs : List Rule) (a : Label) (r : Rule) → r ∈ rs → T (inside r.left a) → replaced names r a ∈ applied names rs a
unfolding applied
in-applied names (q ∷ rs) a r (inl e) t =
    (in-append (replaced names r a) (spread (turn (replaced names q)) (keep (inside q.left) a)) (applied names rs a)).1
    (inl (in-spread (turn (replaced names q)) (keep (inside q.left) a) a (replaced names r a)
    ((in-keep (inside q.left) a a).1 (refl, subst (λ (x : Rule). T (inside x.left a)) e t))
    ((in-turn (replaced names q) a (replaced names r a)).1 (ap (λ (x : Rule). replaced names x a) e))))
in-applied names [] a r x'' t = elim x'' [ ]
in-applied names (q ∷ rs) a r (inr m) t =
    (in-append (replaced names r a) (spread (turn (replaced names q)) (keep (inside q.left) a)) (applied names rs a)).1
    (inr (in-applied names rs a r m t))

-- To this rule, what is left and what is aside are one label.
communicated-fed_back : (k names : ℕ) (rs : List Rule) (rest aside b : Label) → b ∈ communicated k names rs rest aside
    → b ∈ fed_back k names rs (plus rest aside)
unfolding communicated fed_back
communicated-fed_back zero names rs rest aside b m = m
communicated-fed_back (suc k) names rs rest aside b (inl e) = inl e
communicated-fed_back (suc k) names rs rest aside b (inr m) =
    let x = in-flat_map→ (after names rs k rest aside) (fitting rest rs) b m in
    let r = x.source in
    let y = (in-fitting rest rs r).0 x.there in
    inr (in-spread (fed_back k names rs) (applied names rs (plus rest aside)) (replaced names r (plus rest aside)) b
    (in-applied names rs (plus rest aside) r y.0 (inside-plus r.left rest aside y.1))
    (subst (λ (e : Label). b ∈ fed_back k names rs e) (sym (set-aside names r rest aside y.1))
    (communicated-fed_back k names rs (minus rest r.left) (plus aside (single names r.right)) b x.gives)))

-- It gives every label that `comm` gives: for every label and every list of rules, legal or not.
pub comm-fed_back : (names : ℕ) (rs : List Rule) (a b : Label) → b ∈ image names (comm rs) a → b ∈ fed_back (size a) names rs a
comm-fed_back names rs a b m =
    subst (λ (e : Label). b ∈ fed_back (size a) names rs e) (plus_none a) (communicated-fed_back (size a) names rs a [] b m)

-- It gives more: with the rules of P6, of a:1.b:1.d:1 also e:1, from d and the c that came of a and b.
pub fed_back-more : (abcde 0 0 0 0 1 ∈ fed_back 3 5 chained (abcde 1 1 0 1 0)) × ¬ (abcde 0 0 0 0 1 ∈ image 5 (comm chained) (abcde 1 1 0 1 0))
unfolding fed_back applied communicated spread flat_map member order minus inside plus size
fed_back-more = (
  member→in (abcde 0 0 0 0 1) (fed_back 3 5 chained (abcde 1 1 0 1 0)) tt,
  in→member (abcde 0 0 0 0 1) (image 5 (comm chained) (abcde 1 1 0 1 0)),
)
