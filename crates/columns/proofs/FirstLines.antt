-- Nothing goes on behind an LF, so that the longest beginning is one of the line with which the text begins.
-- Assumes nothing.
use mathlib.Core.Path.{◌≡◌, refl, sym, ap, subst, ◌∙◌}
use mathlib.Core.Bool.{Bool, true, false, not}
use mathlib.Core.List.{[], ◌∷◌, ◌++◌}
use Prim.Native.Nat.{ℕ, zero, suc, ◌-◌, ◌≤◌}
use native.Mathlib.Omega.{arith}
use lib.Dec.{T, eqb}
use lib.ListN.{length, take, length-append}
use lib.Seq.{take-take}
use Rattle.meaning.specs.Bytes.{Text}
use Rattle.meaning.proofs.Tests.{and_left, and_right, and_both}
use Rattle.grammar.specs.Text.{Past, stuck, lf}
use Rattle.grammar.proofs.Onwards.{T-not→false}
use Rattle.columns.specs.Farthest.{Due, form_of, in_line, first_line, KeyInLine, Longest}
use Rattle.columns.proofs.Runs.{forget, bare, Run, Any, stuck-past}
use Rattle.columns.proofs.Inside.{Ends}
use Rattle.columns.proofs.LineEnds.{line-ends}
use Rattle.columns.proofs.Farthest.{remember, read_is, due-halted, longest}

-- Nothing goes on behind an LF.
inside-shorter : (p : Text) (b : ℕ) (x q : Text) → p ++ (b ∷ x) ≡ q ++ (lf ∷ []) → T (in_line q) → T (in_line p)
inside-shorter [] b x q e h = tt
inside-shorter (c ∷ p) b x [] e h = absurd (omega (arith, length-append p (b ∷ x), ap length e))
inside-shorter (c ∷ p) b x (d ∷ q) e h =
    let i : c ≡ d = cc in
    and_both (not (eqb lf c)) (in_line p)
    (subst (λ c. T (not (eqb lf c))) (sym i) (and_left (not (eqb lf d)) (in_line q) h))
    (inside-shorter p b x q (cc) (and_right (not (eqb lf d)) (in_line q) h))

halted-inside : {A : Type 0} (form : Text → Past A) (on : Text) {s t : Text} → ((l : Text) → Ends l (form l)) → form s ≡ stuck t
    → (h : Run Any (bare form) stuck on s t) → T (in_line h.read)
halted-inside form [] {s} {t} ends e h = absurd (stuck-past (ap forget (sym e) ∙ ap (bare form) h.whole ∙ h.goes_on t tt))
halted-inside form (b ∷ on) ends e h =
    let l = h.read ++ (b ∷ (on ++ [])) in
    let a = remember (form l) [] (h.goes_on [] tt) in
    let o = (ends l).holds a.0 [] a.1 in
    inside-shorter h.read b (on ++ []) o.read o.whole o.inside

-- The line with which a text begins is the text up to its first LF.
first-goes-on : (b : ℕ) (p s : Text) → T (in_line (b ∷ p)) → first_line (b ∷ s) ≡ b ∷ first_line s
first-goes-on b p s h = rw (T-not→false (eqb lf b) (and_left (not (eqb lf b)) (in_line p) h), first_line)

first-within : (k : ℕ) (s : Text) → T (in_line (take k s)) → k ≤ length s → k ≤ length (first_line s)
first-within zero s h l = omega arith
first-within (suc k) [] h l = l
first-within (suc k) (b ∷ s) h l =
    let i = first-within k s (and_right (not (eqb lf b)) (in_line (take k s)) h) (omega arith) in
    rw (first-goes-on b (take k s) s h) (omega arith)

first_next : (k : ℕ) (s : Text) → T (in_line (take k s)) → take (suc k) (first_line s) ≡ take (suc k) s
first_next zero [] h = refl
first_next zero (b ∷ s) h = by (eqb lf b)
  where
    by : (t : Bool) → take 1 (elim t as (λ _. Text) [ true ↦ b ∷ [] | false ↦ b ∷ first_line s ]) ≡ b ∷ []
    by true = refl
    by false = refl
first_next (suc k) [] h = refl
first_next (suc k) (b ∷ s) h =
    rw (first-goes-on b (take k s) s h) (ap {B = Text} (λ t. b ∷ t) (first_next k s (and_right (not (eqb lf b)) (in_line (take k s)) h)))

first-begins : (k : ℕ) (s : Text) → T (in_line (take k s)) → take k (first_line s) ≡ take k s
first-begins k s h =
    sym (take-take k (suc k) (first_line s) (omega arith)) ∙ ap (take k) (first_next k s h) ∙ take-take k (suc k) s (omega arith)

first-shorter : (s : Text) → length (first_line s) ≤ length s
first-shorter [] = omega arith
first-shorter (b ∷ s) = by (first-shorter s) (eqb lf b)
  where
    by : length (first_line s) ≤ length s → (t : Bool)
        → length {A = ℕ} (elim t as (λ _. Text) [ true ↦ b ∷ [] | false ↦ b ∷ first_line s ]) ≤ suc (length s)
    by h true = omega arith
    by h false = omega arith

longest-first : {A : Type 0} {form : Text → Past A} {s : Text} {k : ℕ} → T (in_line (take k s)) → Longest form s k → Longest form (first_line s) k
longest-first {s = s} {k = k} h m =
    record {
      within = first-within k s h m.within;
      goes_on = rw (first-begins k s h) m.goes_on;
      stops = λ i l a b. m.stops (omega (arith, first-shorter s)) l a (rw (first_next k s h) at b);
    }

-- The theorem, of the line.
pub longest-line : (d : Due) → KeyInLine d → (s t : Text) → form_of d s ≡ stuck t → Longest (form_of d) (first_line s) (length s - length t)
longest-line d i s t e =
    let h = due-halted d s t e in
    longest-first
    (subst (λ p. T (in_line p)) (sym (read_is (form_of d) h.1)) (halted-inside (form_of d) h.0 (line-ends d i) e h.1))
    (longest d s t e)
