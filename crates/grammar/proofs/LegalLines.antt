-- What is taken line by line is legal, and what is legal is taken: the words, the terms and the bodies.
-- Assumes nothing.
use mathlib.Core.Path.{◌≡◌, refl, subst, ◌∙◌}
use mathlib.Core.Logic.Iff
use mathlib.Core.Logic.{inl, inr, ◌↔◌}
use mathlib.Core.Bool.{Bool, ◌&&◌, not}
use mathlib.Core.List.{List, [], ◌∷◌, ◌++◌}
use Prim.Native.Nat.{ℕ, suc, ◌+◌, ◌≤◌, ◌<◌}
use native.Mathlib.Omega.{arith}
use lib.Dec.{T, ltb, ltb→lt, lt→ltb, not_T, T_not}
use lib.ListN.{length, length-append}
use Rattle.meaning.specs.Bytes.{Text, ascii}
use Rattle.meaning.specs.Sets.{◌∈◌}
use Rattle.meaning.specs.Descriptions.{Term, act, tau, delta, ref, sum, cond, choice, ifelse, seq, merge, lmerge}
use Rattle.meaning.specs.Descriptions.{sync, wrap, Description, names, equations}
use Rattle.meaning.specs.Legal.{Each, LegalTwo, LegalTerm, LegalTerms}
use Rattle.meaning.proofs.Tests.{and_left, and_right, and_both}
use Rattle.meaning.proofs.Members.{in-append}
use Rattle.grammar.specs.Text.{same_text}
use Rattle.grammar.specs.Forms.{Places}
use Rattle.grammar.specs.Faults.{name_number, number_fault, both_fault, range_fault}
use Rattle.grammar.specs.Reading.{is_free}
use Rattle.grammar.specs.Writing.{NameForm, Unreserved, Distinct, LegalWords}
use Rattle.grammar.proofs.Findings.{IsFine, fine-worse, fine-below}
use Rattle.grammar.proofs.Onwards.{same→, same_refl}
use Rattle.grammar.proofs.Atoms.{Small, known→in, in→known}
use Rattle.grammar.proofs.TermLines.{Sayable, SmallTwo}
use Rattle.grammar.proofs.Sections.{LegalAfter}

-- A word after others.
abbrev pub NewWord : List Text → Text → Type 0
NewWord before w = NameForm w × T (is_free before w)

other_text : (s t : Text) → T (not (same_text s t)) ↔ (s ≡ t → ⊥)
other_text s t = (
  λ h e. T_not (same_text s t) h (subst (λ u. T (same_text s u)) e (same_refl s)),
  λ f. not_T (same_text s t) (λ h. f (same→ s t h)),
)

unknown-says : (before : List Text) (w : Text) → T (not (ltb (name_number before w) (length before))) ↔ (w ∈ before → ⊥)
unknown-says before w =
    let n = name_number before w in (
      λ h m. T_not (ltb n (length before)) h (lt→ltb n (length before) (in→known before w m)),
      λ f. not_T (ltb n (length before)) (λ h. f (known→in before w (ltb→lt n (length before) h))),
    )

four-tests : (a b c d : Bool) → T (a && b && c && d) ↔ (T a × T b × T c × T d)
four-tests a b c d = (
  λ h.
      let p = and_left (a && b && c) d h in
      let q = and_left (a && b) c p in
      (and_left a b q, and_right a b q, and_right (a && b) c p, and_right (a && b && c) d h),
  λ h. and_both (a && b && c) d (and_both (a && b) c (and_both a b h.0 h.1) h.2) h.3,
)

free-says : (before : List Text) (w : Text) → T (is_free before w) ↔ ((w ∈ before → ⊥) × Unreserved w)
unfolding is_free
free-says before w =
    let new = not (ltb (name_number before w) (length before)) in
    let tests = four-tests new (not (same_text w (ascii "tau"))) (not (same_text w (ascii "none"))) (not (same_text w (ascii "all"))) in
    let isNew = unknown-says before w in
    let noTau = other_text w (ascii "tau") in
    let noNone = other_text w (ascii "none") in
    let noAll = other_text w (ascii "all") in (
      λ h. let k = tests.0 h in (isNew.0 k.0, (noTau.0 k.1, noNone.0 k.2, noAll.0 k.3)),
      λ h. tests.1 (isNew.1 h.0, noTau.1 h.1.0, noNone.1 h.1.1, noAll.1 h.1.2),
    )

words→ : (before ws : List Text) → LegalAfter NewWord before ws
    → Each NameForm ws × Each Unreserved ws × Distinct ws × ((v : Text) → v ∈ ws → v ∈ before → ⊥)
words→ before [] h = (tt, tt, tt, λ v m k. m)
words→ before (w ∷ ws) h =
    let f = (free-says before w).0 h.0.1 in
    let i = words→ (before ++ (w ∷ [])) ws h.1 in (
      (h.0.0, i.0),
      (f.1, i.1),
      (λ m. i.3 w m ((in-append w before (w ∷ [])).1 (inr (inl refl))), i.2),
      λ v. elim [
        | inl e ↦ λ k. f.0 (subst (λ u. u ∈ before) e k)
        | inr m ↦ λ k. i.3 v m ((in-append v before (w ∷ [])).1 (inl k))
      ],
    )

words← : (before ws : List Text) → Each NameForm ws → Each Unreserved ws → Distinct ws → ((v : Text) → v ∈ ws → v ∈ before → ⊥) → LegalAfter NewWord before ws
words← before [] n u d a = tt
words← before (w ∷ ws) n u d a = (
  (n.0, (free-says before w).1 (a w (inl refl), u.0)),
  words← (before ++ (w ∷ [])) ws n.1 u.1 d.1
      (λ v m k. elim ((in-append v before (w ∷ [])).0 k) [
        | inl p ↦ a v (inr m) p
        | inr p ↦ elim p [ inl e ↦ d.0 (subst (λ u. u ∈ ws) e m) | inr q ↦ q ]
      ]),
)

pub legal-words : (ws : List Text) → LegalAfter NewWord [] ws ↔ LegalWords ws
legal-words ws = (λ h. let k = words→ [] ws h in (k.0, k.1, k.2), λ h. words← [] ws h.0 h.1 h.2 (λ v m k. k))

-- A body.
abbrev pub NewBody : ℕ → List ℕ → ℕ → Type 0
NewBody terms before b = Small b × T (ltb b terms)

pub legal-bodies : (terms : ℕ) → terms ≤ 100 → (before bs : List ℕ) → LegalAfter (NewBody terms) before bs ↔ Each (λ b. b < terms) bs
legal-bodies terms n before [] = Iff.rfl
legal-bodies terms n before (b ∷ bs) = (
  λ h. (ltb→lt b terms h.0.1, (legal-bodies terms n (before ++ (b ∷ [])) bs).0 h.1),
  λ h. ((let k = h.0 in omega arith, lt→ltb b terms h.0), (legal-bodies terms n (before ++ (b ∷ [])) bs).1 h.1),
)

-- A term: whether its numbers are in range does not depend on their places.
abbrev pub InRange : ℕ → ℕ → Term → Type 0
InRange equations n t = IsFine (range_fault equations n t (record { first = 0; second = 0 }))

pub range-anywhere : (equations n : ℕ) (t : Term) (at : Places) → IsFine (range_fault equations n t at) ↔ InRange equations n t
range-anywhere equations n (act a) at = Iff.rfl
range-anywhere equations n tau at = Iff.rfl
range-anywhere equations n delta at = Iff.rfl
range-anywhere equations n (ref e) at = simp fine-below Iff.rfl
range-anywhere equations n (sum t) at = simp fine-below Iff.rfl
range-anywhere equations n (cond t) at = simp fine-below Iff.rfl
range-anywhere equations n (choice t u) at = simp (fine-worse, fine-below) Iff.rfl
range-anywhere equations n (ifelse t u) at = simp (fine-worse, fine-below) Iff.rfl
range-anywhere equations n (seq t u) at = simp (fine-worse, fine-below) Iff.rfl
range-anywhere equations n (merge t u) at = simp (fine-worse, fine-below) Iff.rfl
range-anywhere equations n (lmerge t u) at = simp (fine-worse, fine-below) Iff.rfl
range-anywhere equations n (sync t u) at = simp (fine-worse, fine-below) Iff.rfl
range-anywhere equations n (wrap o t) at = simp fine-below Iff.rfl

abbrev pub NewTerm : ℕ → ℕ → List Term → Term → Type 0
NewTerm names equations before t = Sayable names t × InRange equations (length before) t

one_below : (n t : ℕ) → n ≤ 100 → (Small t × IsFine (number_fault n t 0)) ↔ (t < n)
one_below n t k = simp fine-below (λ h. h.1, λ h. (omega arith, h))

two-below : (n t u : ℕ) → n ≤ 100 → (SmallTwo t u × IsFine (both_fault n t u (record { first = 0; second = 0 }))) ↔ LegalTwo n t u
two-below n t u k = simp (fine-worse, fine-below) (λ h. h.1, λ h. let p = h.0 in let q = h.1 in ((omega arith, omega arith), h))

module _ (d : Description) (few : equations d ≤ 100) where
  term-legal : (n : ℕ) → n ≤ 100 → (t : Term) → (Sayable (names d) t × InRange (equations d) n t) ↔ LegalTerm d n t
  term-legal n k (act a) = (λ h. h.0, λ h. (h, tt))
  term-legal n k tau = (λ h. tt, λ h. (tt, tt))
  term-legal n k delta = (λ h. tt, λ h. (tt, tt))
  term-legal n k (ref e) = one_below (equations d) e few
  term-legal n k (sum t) = one_below n t k
  term-legal n k (cond t) = one_below n t k
  term-legal n k (choice t u) = two-below n t u k
  term-legal n k (ifelse t u) = two-below n t u k
  term-legal n k (seq t u) = two-below n t u k
  term-legal n k (merge t u) = two-below n t u k
  term-legal n k (lmerge t u) = two-below n t u k
  term-legal n k (sync t u) = two-below n t u k
  term-legal n k (wrap o t) =
      let below = one_below n t k in
      (λ h. (below.0 (h.0.0, h.1), h.0.1), λ h. let b = below.1 h.0 in ((b.0, h.1), b.1))

  pub legal-terms : (before ts : List Term) → length before + length ts ≤ 100
      → LegalAfter (NewTerm (names d) (equations d)) before ts ↔ LegalTerms d (length before) ts
  legal-terms before [] n = Iff.rfl
  legal-terms before (t ∷ ts) n =
      let next = before ++ (t ∷ []) in
      let one : length next ≡ suc (length before) = length-append before (t ∷ []) ∙ omega arith in
      let here = term-legal (length before) (omega arith) t in
      let there : LegalAfter (NewTerm (names d) (equations d)) next ts ↔ LegalTerms d (suc (length before)) ts =
      rw one at (legal-terms next ts (omega arith)) in
      (λ h. (here.0 h.0, there.0 h.1), λ h. (here.1 h.0, there.1 h.1))
