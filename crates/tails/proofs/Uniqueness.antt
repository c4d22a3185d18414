-- Any two results that meet a reader's promise are equal; and what of a line with a fault, or of one that is stuck, is settled.
-- Assumes nothing.
use mathlib.Core.Path.{◌≡◌, sym, ap, ◌∙◌}
use mathlib.Core.List.{List}
use Prim.Native.Nat.{ℕ, ◌≤◌}
use native.Mathlib.Omega.{arith}
use lib.ListN.{length, drop}
use Rattle.meaning.specs.Bytes.{Text}
use Rattle.meaning.proofs.Alike.{alike}
use Rattle.slots.specs.declared.Term.{Term}
use Rattle.table.specs.Encoded.{term_words, term_for}
use Rattle.grammar.specs.Text.{Past, past, stuck}
use Rattle.grammar.specs.Forms.{Line}
use Rattle.grammar.specs.Faults.{Found, fine, term_said}
use Rattle.faults.specs.CodedFaults.{found_of}
use Rattle.std.specs.Prelude.{Option, None, Ok, Err}
use Rattle.faults.specs.declared.FaultAt.{FaultAt}
use Rattle.words.specs.Steps.{Reading, step_place}
use Rattle.faults.proofs.Uniqueness.{found-unique}
use Rattle.words.proofs.Uniqueness.{place-unique, apart}
use Rattle.lists.specs.Lists.{overlaid}
use Rattle.tails.specs.Lines.{fault_in, LineRead}
use Rattle.tails.specs.Tails.{TailRead}
use Rattle.ranges.specs.declared.Bounds.{Bounds}
use Rattle.tails.specs.declared.TermLine.{TermLine}

-- What the reader of a line that may have a list gives: a value with its fault and the text behind the line, or the text that it is
-- stuck at.
pub data Seen (X : Type 0) : Type 0 where
  took : X → Option FaultAt → Text → Seen X
  stopped : Text → Seen X

pub record Took {L X : Type 0} (due : Past L) (make : L → X) (faults : L → Found) (words : L → List ℕ) (after : List ℕ)
    (x : X) (f : Option FaultAt) (rest : Text) : Type 0 where
  pub line : L
  pub says : past line rest ≡ due
  pub made : x ≡ make line
  pub found : found_of f ≡ faults line
  pub stored : faults line ≡ fine → after ≡ words line

unfoldable pub Meets : {L X : Type 0} → Past L → (L → X) → (L → Found) → (L → List ℕ) → List ℕ → Seen X → Type 0
Meets due make faults words after (took x f rest) = Took due make faults words after x f rest
Meets due make faults words after (stopped rest) = stuck rest ≡ due

-- The store is settled where there is no fault.
module _ {L X : Type 0} (due : Past L) (make : L → X) (faults : L → Found) (words : L → List ℕ) (after₁ after₂ : List ℕ) where
  same_line : (x y : X) (f g : Option FaultAt) (s t : Text) (p : Took due make faults words after₁ x f s) (q : Took due make faults words after₂ y g t)
      → p.line ≡ q.line → s ≡ t
      → (took x f s ≡ took y g t) × (f ≡ None → after₁ ≡ after₂)
  same_line x y f g s t p q e d =
      let u : found_of f ≡ faults q.line = p.found ∙ ap faults e in
      let i : x ≡ y = alike (p.made ∙ ap make e) q.made in
      let j : f ≡ g = found-unique f g (faults q.line) u q.found in
      (cc, stores u)
    where
      stores : found_of f ≡ faults q.line → f ≡ None → after₁ ≡ after₂
      stores u z =
          let v : faults q.line ≡ fine = sym u ∙ ap (λ (h : Option FaultAt). found_of h) z in
          alike (p.stored (ap faults e ∙ v) ∙ ap words e) (q.stored v)

  pub seen-unique : (a b : Seen X) → Meets due make faults words after₁ a → Meets due make faults words after₂ b
      → (a ≡ b) × ((x : X) (t : Text) → a ≡ took x None t → after₁ ≡ after₂)
  unfolding Meets
  seen-unique (took x f s) (took y g t) p q =
      let e = alike p.says q.says in
      let l : p.line ≡ q.line = cc in
      let h = same_line x y f g s t p q l cc in
      (h.0, λ z r d. h.1 cc)
  seen-unique (took x f s) (stopped t) p q = absurd (apart (alike p.says q))
  seen-unique (stopped s) (took y g t) p q = absurd (apart (alike q.says p))
  seen-unique (stopped s) (stopped t) p q =
      let e = alike p q in
      let l : s ≡ t = cc in
      (ap {B = Seen X} stopped l, λ z r d. absurd (other d))
    where
      other : {z : X} {r : Text} → stopped s ≡ took z None r → ⊥
      other d = let z : ◌≡◌ {A = ℕ} 0 1 = cc in omega arith

-- A term's line, and its tail.
abbrev pub term_seen : Text → Reading TermLine → Seen Term
term_seen text (Ok t) = took t.value.term t.value.fault (drop t.bytes text)
term_seen text (Err s) = stopped (drop s.after text)

-- where a place lies in the text it is settled itself, and not only the text from there on
same_step : (line : Text) (r s : Reading TermLine) → step_place r ≤ length line → step_place s ≤ length line → term_seen line r ≡ term_seen line s → r ≡ s
same_step line (Ok v) (Ok w) h k e =
    let a : v.value.term ≡ w.value.term = cc in
    let b : v.value.fault ≡ w.value.fault = cc in
    let t : drop v.bytes line ≡ drop w.bytes line = cc in
    let l = place-unique line v.bytes w.bytes h k t in
    same-taken a b l
  where
    same-taken : {x y : Term} {f g : Option FaultAt} {m n : ℕ} → x ≡ y → f ≡ g → m ≡ n
        → ◌≡◌ {A = Reading TermLine} (Ok (record { value = record { term = x; fault = f }; bytes = m }))
        (Ok (record { value = record { term = y; fault = g }; bytes = n }))
    same-taken p q r = rw (p, q, r)
same_step line (Ok v) (Err q) h k e = let z : ◌≡◌ {A = ℕ} 0 1 = cc in absurd (omega arith)
same_step line (Err p) (Ok w) h k e = let z : ◌≡◌ {A = ℕ} 0 1 = cc in absurd (omega arith)
same_step line (Err p) (Err q) h k e =
    let t : drop p.after line ≡ drop q.after line = cc in
    ap {B = Reading TermLine} (λ (n : ℕ). Err (record { after = n })) (place-unique line p.after q.after h k t)

module _ (words : List Text) (bounds : Bounds) (line : Text) (due : Past Line) (before : List ℕ) where
  abbrev made : Line → Term
  made l = term_for bounds.term (term_said words l)

  abbrev faults : Line → Found
  faults = fault_in words bounds

  abbrev stores : Line → List ℕ
  stores l = overlaid (term_words (term_said words l)) before

  line-meets : (after : List ℕ) (r : Reading TermLine) → LineRead words bounds line due before after r
      → Meets due made faults stores after (term_seen line r) × (step_place r ≤ length line)
  unfolding Meets
  line-meets after (Ok t) p = (record { line = p.line; says = p.says; made = p.term; found = p.faults; stored = p.stored }, p.within)
  line-meets after (Err q) p = (p.says, p.within)

  line-unique : (after₁ after₂ : List ℕ) (r s : Reading TermLine)
      → LineRead words bounds line due before after₁ r
      → LineRead words bounds line due before after₂ s
      → (r ≡ s) × ((x : Term) (t : ℕ) → r ≡ Ok (record { value = record { term = x; fault = None }; bytes = t }) → after₁ ≡ after₂)
  line-unique after₁ after₂ r s p q =
      let a = line-meets after₁ r p in
      let b = line-meets after₂ s q in
      let u = seen-unique due made faults stores after₁ after₂ (term_seen line r) (term_seen line s) a.0 b.0 in
      (same_step line r s a.1 b.1 u.0, λ x t e. u.1 x (drop t line) (ap (term_seen line) e))

-- the store is settled where there is no fault
pub tail-unique : (names : List ℕ) (bounds : Bounds) (k : ℕ) (line : Text) (before after₁ after₂ : List ℕ) (r s : Reading TermLine)
    → TailRead names bounds k line before after₁ r
    → TailRead names bounds k line before after₂ s
    → (r ≡ s) × ((x : Term) (t : ℕ) → r ≡ Ok (record { value = record { term = x; fault = None }; bytes = t }) → after₁ ≡ after₂)
tail-unique names bounds k line before after₁ after₂ r s p q = line-unique _ bounds line _ before after₁ after₂ r s p q
