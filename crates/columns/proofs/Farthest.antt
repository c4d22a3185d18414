-- Where a line that is due is stuck, it has gone on as far as any line of its form does.
-- Assumes nothing.
use mathlib.Core.Path.{◌≡◌, refl, sym, ap, subst, ◌∙◌}
use mathlib.Core.List.{[], ◌∷◌, ◌++◌, append_assoc}
use Prim.Native.Nat.{ℕ, suc, ◌+◌, ◌-◌, ◌≤◌, ◌<◌}
use native.Mathlib.Omega.{arith}
use native.Mathlib.Decide.{dec_lt}
use lib.ListN.{length, take, drop, length-append, take-append-drop}
use lib.Seq.{take_at, take-take}
use Rattle.meaning.specs.Bytes.{Text}
use Rattle.grammar.specs.Text.{Past, past, stuck}
use Rattle.columns.specs.Farthest.{Due, form_of, IsLine, Begins, Longest}
use Rattle.columns.proofs.Runs.{forget, bare, Run, Halted, Ran, Any, stuck-past}
use Rattle.columns.proofs.Lines.{line-lawful}

-- A beginning of a beginning.
begins-shorter : (j k : ℕ) (s l : Text) → j ≤ k → Begins (take k s) l → Begins (take j s) l
begins-shorter j k s l h b = (
  drop j (take k s) ++ b.0,
  b.1 ∙ ap (λ p. p ++ b.0) (sym (take-append-drop j (take k s)) ∙ ap (λ p. p ++ drop j (take k s)) (take-take j k s h))
      ∙ append_assoc (take j s) (drop j (take k s)) b.0,
)

not-below : {A : Type 0} {form : Text → Past A} {s : Text} {j k : ℕ} → Longest form s j → Longest form s k → j < k → ⊥
not-below {s} {j} {k} m n h =
    m.stops (omega (arith, n.within)) n.goes_on.0 n.goes_on.1 (begins-shorter (suc j) k s n.goes_on.0 (omega arith) n.goes_on.2)

-- There is one longest beginning.
pub longest-unique : {A : Type 0} {form : Text → Past A} {s : Text} {j k : ℕ} → Longest form s j → Longest form s k → j ≡ k
longest-unique {j} {k} m n =
    elim (dec_lt j k) [
      | yes h ↦ absurd (not-below m n h)
      | no h ↦ elim (dec_lt k j) [ yes i ↦ absurd (not-below n m i) | no i ↦ omega arith ]
    ]

-- What is read of a form that says nothing is read of the form.
pub remember : {A : Type 0} (m : Past A) (r : Text) → forget m ≡ past tt r → (a : A) × (m ≡ past a r)
remember (past a q) r e = (a, cc)
remember (stuck q) r e = absurd (stuck-past e)

-- A lawful form is stuck behind the longest beginning.
module _ {A : Type 0} (form : Text → Past A) {on s t : Text} (h : Run Any (bare form) stuck on s t) where
  all_read : length s ≡ length h.read + length t
  all_read = ap length h.whole ∙ length-append h.read t

  pub read_is : take (length s - length t) s ≡ h.read
  read_is = ap (take (length s - length t)) h.whole ∙ take_at h.read t (length s - length t) (omega (arith, all_read))

  begins-on : (l : Text) × IsLine form l × Begins (take (length s - length t) s) l
  begins-on =
      let l = h.read ++ (on ++ []) in
      (l, remember (form l) [] (h.goes_on [] tt), (on ++ [], ap (λ p. p ++ (on ++ [])) (sym read_is)))

begins-no-more : {A : Type 0} (form : Text → Past A) {on s : Text} (t : Text) → Run Any (bare form) stuck on s t → length s - length t < length s
    → (l : Text) → IsLine form l → Begins (take (suc (length s - length t)) s) l → ⊥
begins-no-more form [] h i l a c = omega arith
begins-no-more form {s = s} (b ∷ x) h i l a c =
    let p = h.read ++ (b ∷ []) in
    let k = suc (length s - length (b ∷ x)) in
    let w : s ≡ p ++ x = h.whole ∙ sym (append_assoc h.read (b ∷ []) x) in
    let e : take k s ≡ p = ap (take k) w ∙ take_at p x k (omega (arith, all_read form h, length-append h.read (b ∷ []))) in
    let d : l ≡ h.read ++ (b ∷ c.0) = c.1 ∙ ap (λ p. p ++ c.0) e ∙ append_assoc h.read (b ∷ []) c.0 in
    stuck-past (sym (h.alike b x c.0 refl) ∙ ap (bare form) (sym d) ∙ ap forget a.1)

-- The theorem: for every line that can be due.
pub due-halted : (d : Due) (s t : Text) → form_of d s ≡ stuck t → Halted Any (bare (form_of d)) s t
due-halted d s t e = subst (λ m. Ran Any (bare (form_of d)) s (forget m)) e ((line-lawful d).ran s)

pub longest : (d : Due) (s t : Text) → form_of d s ≡ stuck t → Longest (form_of d) s (length s - length t)
longest d s t e =
    let h = (due-halted d s t e).1 in
    record { within = omega arith; goes_on = begins-on (form_of d) h; stops = begins-no-more (form_of d) t h }
