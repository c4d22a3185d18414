-- Whole lines: one, and so many that are read alike, against their writings.
-- Assumes nothing.
use mathlib.Core.Path.{◌≡◌, refl, sym, ap, subst, subst₂, ◌∙◌, ◌≡⟨◌⟩◌, ◌∎}
use mathlib.Core.Bool.{Bool, true, false}
use mathlib.Core.List.{List, [], ◌∷◌, ◌++◌, append-nil, append_assoc}
use Prim.Native.Nat.{ℕ, zero, suc}
use native.Mathlib.Omega.{arith}
use lib.Dec.{T}
use lib.ListN.{length}
use Rattle.meaning.specs.Bytes.{Text}
use Rattle.meaning.specs.Answers.{Fault}
use Rattle.grammar.specs.Text.{Past, past, stuck, Placed}
use Rattle.grammar.specs.Faults.{Found, fine, fault, unless}
use Rattle.grammar.specs.Reading.{Taken, taken, faulty, taken_if, taken_unless, formed, Flaw, Walk, reached, halted, walk, after_line, one_line, lines}
use Rattle.grammar.specs.Writing.{line_before, each_line}
use Rattle.grammar.proofs.Findings.{IsFine, fine-unless}
use Rattle.grammar.proofs.Onwards.{When}
use Rattle.grammar.proofs.LineForms.{Made, WritesLine, line-narrow}

-- What is taken of a line, and the text after it.
pub record Takes {Y B : Type 0} (take : Text → Taken B) (make : Y → B) (text : Y → Text) (Legal : Y → Type 0) : Type 0 where
  pub sound : (s : Text) (b : B) (r : Text) → take s ≡ taken b r → Made make (λ y. line_before (text y) r) Legal b s
  pub complete : (y : Y) → Legal y → (r : Text) → take (line_before (text y) r) ≡ taken (make y) r

faulty≢taken : {B : Type 0} {f : Fault} {from : ℕ} {b : B} {r : Text} → faulty f from ≡ taken b r → ⊥
faulty≢taken e = let z : ◌≡◌ {A = ℕ} 0 1 = cc in omega arith

unless→ : {B : Type 0} {a b : B} {q r : Text} (f : Found) → taken_unless f a q ≡ taken b r → IsFine f × (a ≡ b) × (q ≡ r)
unless→ fine e = (tt, cc, cc)
unless→ (fault x from) e = absurd (faulty≢taken e)

unless← : {B : Type 0} {a : B} {r : Text} (f : Found) → IsFine f → taken_unless f a r ≡ taken a r
unless← fine h = refl
unless← (fault x from) h = absurd h

formed-if : {A B : Type 0} (test : A → Bool) (f : Fault) (make : A → B) (m : Past (Placed A))
    → formed m (λ a. taken_if (test a.it) f a.from (make a.it)) ≡ formed m (λ a. taken_unless (unless (test a.it) f a.from) (make a.it))
formed-if test f make (past a r) = same (test a.it)
  where
    same : (t : Bool) → taken_if t f a.from (make a.it) r ≡ taken_unless (unless t f a.from) (make a.it) r
    same true = refl
    same false = refl
formed-if test f make (stuck r) = refl

pub line→takes : {X Y Z B : Type 0} {form : Text → Past X} {says : X → Z} {fault : X → Found} {build : Y → Z} {text : Y → Text} {Legal : Y → Type 0}
    → WritesLine form says fault build text Legal → (make : Z → B) (take : Text → Taken B)
    → ((s : Text) → take s ≡ formed (form s) (λ x. taken_unless (fault x) (make (says x))))
    → Takes take (λ y. make (build y)) text Legal
line→takes {X} {B} {form} {says} {fault} {build} {text} {Legal} w make take same = record {
  sound = λ s b r e. go s b r (form s) (w.sound s) (sym (same s) ∙ e);
  complete = λ y l r.
      let c = w.complete y l r in
      same (line_before (text y) r) ∙ rw c.reads (unless← (fault c.value) c.faultless ∙ ap (λ z. taken (make z) r) c.said);
}
  where
    go : (s : Text) (b : B) (r : Text) (m : Past X) → When m (λ x q. IsFine (fault x) → Made build (λ y. line_before (text y) q) Legal (says x) s)
        → formed m (λ x. taken_unless (fault x) (make (says x))) ≡ taken b r
        → Made (λ y. make (build y)) (λ y. line_before (text y) r) Legal b s
    go s b r (past x q) h e =
        let k = unless→ (fault x) e in
        let m = h.holds x q refl k.0 in
        record {
          source = m.source;
          builds = sym k.1 ∙ ap make m.builds;
          writes = m.writes ∙ ap (line_before (text m.source)) k.2;
          legal = m.legal;
        }
    go s b r (stuck q) h e = absurd (faulty≢taken e)

-- A line that has no fault but one, which a test finds.
pub takes-if : {A B : Type 0} {form : Text → Past (Placed A)} {text : A → Text} {Legal : A → Type 0}
    → WritesLine form (λ a. a.it) (λ a. fine) (λ a. a) text Legal → (test : A → Bool) (f : Fault) (make : A → B)
    → Takes (λ s. formed (form s) (λ a. taken_if (test a.it) f a.from (make a.it))) make text (λ a. Legal a × T (test a))
takes-if {form} w test f make =
    line→takes (line-narrow w (λ a. unless (test a.it) f a.from) (λ a. T (test a)) (λ a. fine-unless (test a.it) f a.from)) make
    (λ s. formed (form s) (λ a. taken_if (test a.it) f a.from (make a.it))) (λ s. formed-if test f make (form s))

-- A walk that came to its end, and the steps that it is made of.
pub record Reaches {A : Type 0} (m : Walk A) (a : A) (s : Text) : Type 0 where
  pub number : ℕ
  pub there : m ≡ reached a number s

not-halted : {A : Type 0} {f : Flaw} {line : ℕ} {a : A} {s : Text} → Reaches (halted f line) a s → ⊥
not-halted h = let e = h.there in let z : ◌≡◌ {A = ℕ} 0 1 = cc in omega arith

pub record Walked {A B : Type 0} (m : Walk A) (f : A → ℕ → Text → Walk B) (b : B) (s : Text) : Type 0 where
  pub value : A
  pub number : ℕ
  pub rest : Text
  pub first : Reaches m value rest
  pub second : Reaches (f value number rest) b s

pub walk→ : {A B : Type 0} {b : B} {s : Text} (m : Walk A) (f : A → ℕ → Text → Walk B) → Reaches (walk m f) b s → Walked m f b s
walk→ (reached a n t) f h = record { value = a; number = n; rest = t; first = record { number = n; there = refl }; second = h }
walk→ (halted f n) g h = absurd (not-halted h)

pub walk← : {A B : Type 0} {a : A} {b : B} {s t : Text} {m : Walk A} (f : A → ℕ → Text → Walk B)
    → Reaches m a t → ((n : ℕ) → Reaches (f a n t) b s) → Reaches (walk m f) b s
walk← {a} {b} {s} {t} f h k = subst (λ w. Reaches (walk w f) b s) (sym h.there) (k h.number)

-- One line.
after→ : {B : Type 0} {b : B} {r : Text} (n : ℕ) (s : Text) (t : Taken B) → Reaches (after_line n s t) b r → t ≡ taken b r
after→ n s (taken a q) h = let e = h.there in cc
after→ n s (faulty f from) h = absurd (not-halted h)

module _ {Y B : Type 0} {take : Text → Taken B} {make : Y → B} {text : Y → Text} {Legal : Y → Type 0} (w : Takes take make text Legal) where
  pub one-line→ : (n : ℕ) (s : Text) (b : B) (r : Text) → Reaches (one_line take n s) b r → Made make (λ y. line_before (text y) r) Legal b s
  one-line→ n s b r h = w.sound s b r (after→ n s (take s) h)

  pub one-line← : (n : ℕ) (y : Y) (r : Text) → Legal y → Reaches (one_line take n (line_before (text y) r)) (make y) r
  one-line← n y r l = record { number = suc n; there = ap (after_line n (line_before (text y) r)) (w.complete y l r) }

-- Lines that are read alike, each legal after those before it.
module _ {A : Type 0} (Legal : List A → A → Type 0) where
  abbrev pub LegalAfter : List A → List A → Type 0
  LegalAfter xs [] = Unit {0}
  LegalAfter xs (z ∷ zs) = Legal xs z × LegalAfter (xs ++ (z ∷ [])) zs

pub record Section {A : Type 0} (Legal : List A → A → Type 0) (text : A → Text) (before : List A) (all : List A) (count : ℕ) (s r : Text) : Type 0 where
  pub entries : List A
  pub adds : all ≡ before ++ entries
  pub counted : length entries ≡ count
  pub writes : s ≡ each_line text entries r
  pub legal : LegalAfter Legal before entries

module _ {A : Type 0} {take : List A → Text → Taken (List A)} {text : A → Text} {Legal : List A → A → Type 0}
    (w : (xs : List A) → Takes (take xs) (λ y. xs ++ (y ∷ [])) text (Legal xs)) where
  pub lines→ : (count : ℕ) (xs : List A) (n : ℕ) (s : Text) (ys : List A) (r : Text)
      → Reaches (lines take count xs n s) ys r → Section Legal text xs ys count s r
  unfolding lines each_line
  lines→ zero xs n s ys r h = let e = h.there in let p : xs ≡ ys = cc in let q : s ≡ r = cc in
      record { entries = []; adds = sym p ∙ sym (append-nil xs); counted = refl; writes = q; legal = tt }
  lines→ (suc count) xs n s ys r h =
      let k = walk→ (one_line (take xs) n s) (lines take count) h in
      let m = one-line→ (w xs) n s k.value k.rest k.first in
      let y = m.source in
      let i = lines→ count k.value k.number k.rest ys r k.second in
      record {
        entries = y ∷ i.entries;
        adds = ys
            ≡⟨ i.adds ⟩ k.value ++ i.entries
            ≡⟨ ap (λ v. v ++ i.entries) m.builds ⟩ (xs ++ (y ∷ [])) ++ i.entries
            ≡⟨ append_assoc xs (y ∷ []) i.entries ⟩ xs ++ (y ∷ i.entries) ∎;
        counted = ap suc i.counted;
        writes = m.writes ∙ ap (line_before (text y)) i.writes;
        legal = (m.legal, subst (λ v. LegalAfter Legal v i.entries) m.builds i.legal);
      }

  pub lines← : (zs xs : List A) (n : ℕ) (r : Text) → LegalAfter Legal xs zs → Reaches (lines take (length zs) xs n (each_line text zs r)) (xs ++ zs) r
  unfolding lines each_line
  lines← [] xs n r l = record { number = n; there = ap (λ v. reached v n r) (sym (append-nil xs)) }
  lines← (z ∷ zs) xs n r l =
      let next = xs ++ (z ∷ []) in
      walk← (lines take (length zs)) (one-line← (w xs) n z (each_line text zs r) l.0)
      (λ m. subst (λ v. Reaches (lines take (length zs) next m (each_line text zs r)) v r) (append_assoc xs (z ∷ []) zs) (lines← zs next m r l.1))

-- What holds of that which a walk comes to, if it comes to an end.
pub record Ends {A : Type 0} (m : Walk A) (P : A → Text → Type 0) : Type 0 where
  pub holds : (a : A) (s : Text) → Reaches m a s → P a s

pub ends-reached : {A : Type 0} {P : A → Text → Type 0} {a : A} {n : ℕ} {s : Text} → P a s → Ends (reached a n s) P
ends-reached {P} {a} {s} h = record { holds = λ b t k. let e = k.there in let p : a ≡ b = cc in let q : s ≡ t = cc in subst₂ P p q h }

pub ends-walk : {A B : Type 0} {m : Walk A} {f : A → ℕ → Text → Walk B} {P : A → Text → Type 0} {Q : B → Text → Type 0} → Ends m P
    → ((a : A) (n : ℕ) (s : Text) → P a s → Ends (f a n s) Q) → Ends (walk m f) Q
ends-walk {m} {f} h k = record {
  holds = λ b s r.
      let w = walk→ m f r in
      (k w.value w.number w.rest (h.holds w.value w.rest w.first)).holds b s w.second;
}

-- (where nothing else is made of a line, and where a section starts from nothing)
pub ends-line : {B : Type 0} {take : Text → Taken B} {text : B → Text} {Legal : B → Type 0} → Takes take (λ b. b) text Legal
    → (n : ℕ) (s : Text) → Ends (one_line take n s) (λ b r. (s ≡ line_before (text b) r) × Legal b)
ends-line {text} {Legal} w n s = record {
  holds = λ b r h.
      let m = one-line→ w n s b r h in
      subst (λ c. (s ≡ line_before (text c) r) × Legal c) (sym m.builds) (m.writes, m.legal);
}

pub ends-section : {A : Type 0} {take : List A → Text → Taken (List A)} {text : A → Text} {Legal : List A → A → Type 0}
    → ((xs : List A) → Takes (take xs) (λ y. xs ++ (y ∷ [])) text (Legal xs))
    → (count n : ℕ) (s : Text) → Ends (lines take count [] n s) (λ ys r. (s ≡ each_line text ys r) × (length ys ≡ count) × LegalAfter Legal [] ys)
ends-section {text} {Legal} w count n s = record {
  holds = λ ys r h.
      let m = lines→ w count [] n s ys r h in
      subst (λ zs. (s ≡ each_line text zs r) × (length zs ≡ count) × LegalAfter Legal [] zs) (sym m.adds) (m.writes, m.counted, m.legal);
}
