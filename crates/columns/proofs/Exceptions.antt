-- A word that is all that is left of a line, beside a form that reads the word and is stuck at the LF behind it: the two together are lawful.
-- Assumes nothing.
use mathlib.Core.Path.{◌≡◌, refl, sym, ap, subst, ◌∙◌}
use mathlib.Core.Bool.{Bool, true, false, true≢false}
use mathlib.Core.List.{[], ◌∷◌, ◌++◌, append_assoc, append_cancel_right}
use Prim.Native.Nat.{ℕ, suc}
use lib.Dec.{T}
use native.Mathlib.Numerals.{add-one}
use lib.ListN.{length, drop, length-append}
use lib.Seq.{drop_at}
use Rattle.meaning.specs.Bytes.{Text}
use Rattle.grammar.specs.Text.{Past, past, stuck, lf, is_rest}
use Rattle.grammar.proofs.Onwards.{literal←, rest←, rest-line}
use Rattle.columns.proofs.Runs.{Form, Run, Ran, Lawful, Any, stuck-past}

-- The word with the LF behind it, or the form.
abbrev pub unless : Text → Form → Form
unless w G s = elim (is_rest w s) [ true ↦ past tt (drop (suc (length w)) s) | false ↦ G s ]

module _ (w : Text) (G : Form) (g : Lawful Any G) (apart : (x : Text) → G (w ++ (lf ∷ x)) ≡ stuck (lf ∷ x)) where
  abbrev H : Form
  H = unless w G

  line : Text
  line = w ++ (lf ∷ [])

  is-rest : (x : Text) → is_rest w (w ++ (lf ∷ x)) ≡ true
  is-rest x = rest← w (w ++ (lf ∷ x)) (lf ∷ x) (literal← w (lf ∷ x)) refl

  rest-is : (s : Text) → is_rest w s ≡ true → s ≡ w ++ (lf ∷ drop (suc (length w)) s)
  rest-is s e = rest-line w s (subst T (sym e) tt)

  at-line : (x : Text) → H (line ++ x) ≡ past tt x
  unfolding line
  at-line x =
      rw (subst (λ s. is_rest w s ≡ true) (sym (append_assoc w (lf ∷ []) x)) (is-rest x), unless)
      (ap {B = Past (Unit {0})} (past tt) (drop_at line x (suc (length w)) (length-append w (lf ∷ []) ∙ add-one (length w))))

  -- What the form reads, or where it is stuck behind another byte, is not that line.
  not-rest : (s : Text) → (is_rest w s ≡ true → ⊥) → H s ≡ G s
  not-rest s k = by (is_rest w s) refl
    where
      by : (t : Bool) → is_rest w s ≡ t → H s ≡ G s
      by true e = absurd (k e)
      by false e = rw (e, unless)

  past_is : (s r : Text) → G s ≡ past tt r → H s ≡ past tt r
  past_is s r e = not-rest s (λ i. stuck-past (sym (apart (drop (suc (length w)) s)) ∙ sym (ap G (rest-is s i)) ∙ e)) ∙ e

  stuck-is : (s p : Text) (b : ℕ) (x y : Text) → is_rest w s ≡ false → s ≡ p ++ (b ∷ x) → G (p ++ (b ∷ y)) ≡ stuck (b ∷ y)
      → H (p ++ (b ∷ y)) ≡ stuck (b ∷ y)
  stuck-is s p b x y no_line e k = not-rest (p ++ (b ∷ y)) other ∙ k
    where
      other : is_rest w (p ++ (b ∷ y)) ≡ true → ⊥
      other i =
          let d = drop (suc (length w)) (p ++ (b ∷ y)) in
          let j : ◌≡◌ {A = Past (Unit {0})} (stuck (b ∷ y)) (stuck (lf ∷ d)) = sym k ∙ ap G (rest-is (p ++ (b ∷ y)) i) ∙ apart d in
          let at : b ∷ y ≡ lf ∷ d = cc in
          let word : p ≡ w = append_cancel_right p w (b ∷ y) (rest-is (p ++ (b ∷ y)) i ∙ ap (λ t. w ++ t) (sym at)) in
          let sign : b ≡ lf = cc in
          let same : s ≡ w ++ (lf ∷ x) = cc in
          true≢false (sym (is-rest x) ∙ ap (is_rest w) (sym same) ∙ no_line)

  kept : {out : Form} {on s r : Text} (k : Run Any G out on s r) → ((b : ℕ) (x y : Text) → r ≡ b ∷ x → H (k.read ++ (b ∷ y)) ≡ out (b ∷ y))
      → Run Any H out on s r
  kept {on = on} k e =
      record { read = k.read; whole = k.whole; alike = e; goes_on = λ q i. past_is (k.read ++ (on ++ q)) q (k.goes_on q i) }

  form-ran : (s : Text) → is_rest w s ≡ false → (m : Past (Unit {0})) → Ran Any G s m → Ran Any H s m
  form-ran s e (past a r) k = kept k (λ b x y i. past_is (k.read ++ (b ∷ y)) (b ∷ y) (k.alike b x y i))
  form-ran s e (stuck t) k =
      let h = k.1 in
      (k.0, kept h (λ b x y i. stuck-is s h.read b x y e (h.whole ∙ ap (λ t. h.read ++ t) i) (h.alike b x y i)))

  pub unless-lawful : Lawful Any H
  unfolding line
  unless-lawful = record { some = g.some; reads = λ q i. past_is (g.some ++ q) q (g.reads q i); ran = λ s. by s (is_rest w s) refl }
    where
      by : (s : Text) (t : Bool) → is_rest w s ≡ t
          → Ran Any H s (elim t as (λ _. Past (Unit {0})) [ true ↦ past tt (drop (suc (length w)) s) | false ↦ G s ])
      by s true e =
          record {
            read = line;
            whole = rest-is s e ∙ sym (append_assoc w (lf ∷ []) (drop (suc (length w)) s));
            alike = λ b x y _. at-line (b ∷ y);
            goes_on = λ q _. at-line q;
          }
      by s false e = form-ran s e (G s) (g.ran s)
