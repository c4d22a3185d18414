-- What operators make of labels: labels over all names, the rules that fit a label, and that what an operator makes of a label
-- in a set is what it does to it on a run.
-- Assumes nothing.
use mathlib.Core.Path.{◌≡◌, refl, sym, ap, subst, ◌∙◌, ◌≡⟨◌⟩◌, ◌∎}
use mathlib.Core.Logic.{inl, inr, ◌↔◌}
use mathlib.Core.Bool.{Bool, true, false}
use mathlib.Core.List.{List, [], ◌∷◌}
use Prim.Native.Nat.{ℕ, zero, suc, ◌≤◌, ◌<◌}
use native.Mathlib.Nat.{le_refl}
use native.Mathlib.Omega.{arith}
use lib.Dec.{T}
use lib.ListN.{length}
use Rattle.meaning.specs.Labels.{Label, size, single, plus, minus, inside, clear, without, renamed}
use Rattle.meaning.specs.Sets.{◌∈◌}
use Rattle.meaning.specs.Descriptions.{Rule, Operator, block, hide, rename, comm, allow}
use Rattle.meaning.specs.Legal.{Each, LegalRule, LegalOperator}
use Rattle.meaning.specs.Rounds.{pick, target, allowed, fitting, communicated, image}
use Rattle.meaning.specs.Runs.{Communicates, enough, apply, Acts}
use Rattle.meaning.proofs.Bags.{plus_none, plus_assoc, minus_plus, size-plus, size-minus, size-several, length-plus, length-minus}
use Rattle.meaning.proofs.Bags.{length-several}
use Rattle.meaning.proofs.Filters.{→allowed, allowed→, zero→clear, clear→zero}
use Rattle.meaning.proofs.Maps.{length_without, length-renamed}
use Rattle.meaning.proofs.Members.{each_of, in-flat_map, in-flat_map→, in-keep, in-turn}

-- A label with the left side of a rule replaced by its right side; that setting a result aside makes such a replacement in the
-- sum of what is left and what is aside; and that such a replacement keeps the names and lessens the actions.
abbrev pub replaced : ℕ → Rule → Label → Label
replaced names r a = plus (minus a r.left) (single names r.right)

pub set-aside : (names : ℕ) (r : Rule) (rest aside : Label) → T (inside r.left rest)
    → replaced names r (plus rest aside) ≡ plus (minus rest r.left) (plus aside (single names r.right))
set-aside names r rest aside t =
    ap (λ (x : Label). plus x (single names r.right)) (minus_plus rest aside r.left t)
    ∙ plus_assoc (minus rest r.left) aside (single names r.right)

pub length-replaced : (names : ℕ) (r : Rule) (a : Label) → length a ≡ names → length (replaced names r a) ≡ names
length-replaced names r a h =
    length-plus names (minus a r.left) (single names r.right) (length-minus a r.left ∙ h) (length-several names r.right 1)

pub fewer-left : (names : ℕ) (r : Rule) (a : Label) → 2 ≤ size r.left → T (inside r.left a) → size (replaced names r a) < size a
fewer-left names r a two t =
    omega (arith, size-plus (minus a r.left) (single names r.right), size-minus a r.left t, size-several names r.right 1)

pub rule-legal : (names : ℕ) (rs : List Rule) → Each (LegalRule names) rs → (r : Rule) → r ∈ rs → LegalRule names r
rule-legal names = each_of (LegalRule names)

-- The rules that fit a label are the listed ones whose left side lies inside it.
picked-says : (t : Bool) (q r : Rule) → (r ∈ pick t (q ∷ []) []) ↔ ((r ≡ q) × T t)
picked-says true q r = (elim [ inl e ↦ (e, tt) | inr m ↦ absurd m ], λ h. inl h.0)
picked-says false q r = (λ m. absurd m, λ h. h.1)

pub in-fitting : (rest : Label) (rs : List Rule) (r : Rule) → (r ∈ fitting rest rs) ↔ ((r ∈ rs) × T (inside r.left rest))
in-fitting rest rs r =
    let test : Rule → List Rule = λ q. pick (inside q.left rest) (q ∷ []) [] in (
      λ m.
          let x = in-flat_map→ test rs r m in
          let y = (picked-says (inside x.source.left rest) x.source r).0 x.gives in
          (subst (λ (q : Rule). q ∈ rs) (sym y.0) x.there, subst (λ (q : Rule). T (inside q.left rest)) (sym y.0) y.1),
      λ h. in-flat_map test rs r r h.0 ((picked-says (inside r.left rest) r r).1 (refl, h.1)),
    )

module _ (names : ℕ) (rs : List Rule) where
  -- what the set rule lists once a rule is applied
  abbrev pub after : ℕ → Label → Label → Rule → List Label
  after k rest aside r = communicated k names rs (minus rest r.left) (plus aside (single names r.right))

  -- Up to any bound, what the set rule lists comes of rule applications to disjoint parts, as on a run.
  communicated→ : (k : ℕ) (rest aside b : Label) → b ∈ communicated k names rs rest aside → Communicates names rs rest aside b
  unfolding communicated
  communicated→ zero rest aside b (inl e) = subst (Communicates names rs rest aside) (sym e) (enough rest aside)
  communicated→ zero rest aside b (inr m) = absurd m
  communicated→ (suc k) rest aside b (inl e) = subst (Communicates names rs rest aside) (sym e) (enough rest aside)
  communicated→ (suc k) rest aside b (inr m) =
      let x = in-flat_map→ (after k rest aside) (fitting rest rs) b m in
      let y = (in-fitting rest rs x.source).0 x.there in
      apply x.source y.0 y.1
      (communicated→ k (minus rest x.source.left) (plus aside (single names x.source.right)) b x.gives)

  module _ (legal : Each (LegalRule names) rs) where
    -- Each application takes at least two of the actions left, so that there are no more applications than actions.
    →communicated : {rest aside b : Label} → Communicates names rs rest aside b → (k : ℕ) → size rest ≤ k → b ∈ communicated k names rs rest aside
    unfolding communicated
    →communicated (enough rest aside) zero l = inl refl
    →communicated (enough rest aside) (suc k) l = inl refl
    →communicated (apply r {rest = rest} m t c) zero l = absurd (let two = (rule-legal names rs legal r m).1 in omega (arith, size-minus rest r.left t))
    →communicated (apply r {rest = rest} {aside = aside} {result = b} m t c) (suc k) l =
        inr (in-flat_map (after k rest aside) (fitting rest rs) r b ((in-fitting rest rs r).1 (m, t))
        (→communicated c k (let two = (rule-legal names rs legal r m).1 in omega (arith, size-minus rest r.left t))))

    -- The bound loses nothing: every bound of at least the actions left gives just the labels of a run, where no bound is set.
    pub bound-loses-nothing : (k : ℕ) (rest aside b : Label) → size rest ≤ k → (b ∈ communicated k names rs rest aside) ↔ Communicates names rs rest aside b
    bound-loses-nothing k rest aside b l = (communicated→ k rest aside b, λ c. →communicated c k l)

-- What an operator makes of a label in a set is what it does to it on a run, and the other way round.
pub image-acts : (names : ℕ) (o : Operator) (a b : Label) → b ∈ image names o a → Acts names o a b
image-acts names (block ns) a b m = let x = (in-keep (clear ns) a b).0 m in (x.0, clear→zero ns a x.1)
image-acts names (hide ns) a b m = (in-turn (without ns) a b).0 m
image-acts names (rename ps) a b m = (in-turn (renamed names (target ps)) a b).0 m
image-acts names (comm rs) a b m = communicated→ names rs (size a) a [] b m
image-acts names (allow ls) a b m = let x = (in-keep (allowed ls) a b).0 m in (x.0, allowed→ ls a x.1)

pub acts-image : (names : ℕ) (o : Operator) → LegalOperator names o → (a b : Label) → Acts names o a b → b ∈ image names o a
acts-image names (block ns) h a b x = (in-keep (clear ns) a b).1 (x.0, zero→clear ns a x.1)
acts-image names (hide ns) h a b x = (in-turn (without ns) a b).1 x
acts-image names (rename ps) h a b x = (in-turn (renamed names (target ps)) a b).1 x
acts-image names (comm rs) h a b x = →communicated names rs h.2 x (size a) (le_refl (size a))
acts-image names (allow ls) h a b x = (in-keep (allowed ls) a b).1 (x.0, →allowed ls a x.1)

-- Labels stay over all names.
length-communicates : (names : ℕ) (rs : List Rule) {rest aside b : Label} → Communicates names rs rest aside b → length (plus rest aside) ≡ names
    → length b ≡ names
length-communicates names rs (enough rest aside) h = h
length-communicates names rs (apply r {rest = rest} {aside = aside} m t c) h =
    length-communicates names rs c (ap length (sym (set-aside names r rest aside t)) ∙ length-replaced names r (plus rest aside) h)

pub length-image : (names : ℕ) (o : Operator) (a b : Label) → length a ≡ names → b ∈ image names o a → length b ≡ names
length-image names (block ns) a b h m = ap length ((in-keep (clear ns) a b).0 m).0 ∙ h
length-image names (hide ns) a b h m =
    length b
    ≡⟨ ap length ((in-turn (without ns) a b).0 m) ⟩ length (without ns a)
    ≡⟨ length_without ns a ⟩ length a
    ≡⟨ h ⟩ names ∎
length-image names (rename ps) a b h m = ap length ((in-turn (renamed names (target ps)) a b).0 m) ∙ length-renamed names (target ps) a 0
length-image names (comm rs) a b h m = length-communicates names rs (image-acts names (comm rs) a b m) (ap length (plus_none a) ∙ h)
length-image names (allow ls) a b h m = ap length ((in-keep (allowed ls) a b).0 m).0 ∙ h
