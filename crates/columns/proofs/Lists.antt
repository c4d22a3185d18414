-- Lists are lawful: one or more of a lawful form, with a sign between them that may follow each.
-- Assumes nothing.
use mathlib.Core.Path.{◌≡◌, refl, sym, ap, subst, ◌∙◌}
use mathlib.Core.Bool.{Bool, true, false}
use mathlib.Core.List.{List, [], ◌∷◌, ◌++◌, append_assoc}
use Prim.Native.Nat.{ℕ, zero, suc, ◌≤◌, ◌<◌}
use native.Mathlib.Omega.{arith}
use lib.Dec.{T, eqb, eqb→eq, eqb_refl}
use lib.ListN.{length, length-append}
use Rattle.meaning.specs.Bytes.{Text}
use Rattle.grammar.specs.Text.{Past, past, stuck, onward, literal, byte, starts, separated_on, separated}
use Rattle.grammar.proofs.Onwards.{T→true}
use Rattle.columns.proofs.Runs.{Form, forget, bare, ◌⨾◌, Passed, Ran, Lawful, prefixed}
use Rattle.columns.proofs.Signs.{forget-last, Unless}

module _ {A : Type 0} (sign : ℕ) (item : Text → Past A) where
  -- behind an entry: the sign and the list again, or the list's end
  abbrev step : ℕ → A → Text → Past (List A)
  step more a r = elim (starts sign r) [
    | true ↦ onward (byte sign r) (λ _ q. onward (separated_on sign item more q) (λ as' p. past (a ∷ as') p))
    | false ↦ past (a ∷ []) r
  ]

  step-sign : (more : ℕ) (a : A) (b : ℕ) (q : Text) → eqb sign b ≡ true
      → step more a (b ∷ q) ≡ onward (separated_on sign item more q) (λ as' p. past (a ∷ as') p)
  unfolding literal
  step-sign more a b q e = rw (e, step) (rw (e, literal))

  step_other : (more : ℕ) (a : A) (b : ℕ) (q : Text) → eqb sign b ≡ false → step more a (b ∷ q) ≡ past (a ∷ []) (b ∷ q)
  step_other more a b q e = rw (e, step)

  abbrev pub list : Form
  list = bare (separated sign item)

  abbrev more : Form
  more [] = past tt []
  more (b ∷ q) = elim (eqb sign b) [ true ↦ list q | false ↦ past tt (b ∷ q) ]

  more-end : (q : Text) → Unless (eqb sign) q → more q ≡ past tt q
  more-end [] h = refl
  more-end (b ∷ q) h = rw (h, more)

  module _ {May : Text → Type 0} (f : Lawful May (bare item)) (between : (x : Text) → May (sign ∷ x)) where
    shorter : (s : Text) (a : A) (r : Text) → item s ≡ past a r → length r ≤ length s
    shorter s a r e =
        let h : Passed May (bare item) s r = subst (λ m. Ran May (bare item) s (forget m)) e (f.ran s) in
        omega (arith, length-append h.read r, ap length h.whole)

    -- There are not more entries than bytes, so that no list ends for their number.
    step-enough : (n m : ℕ) → ((q : Text) → length q < n → length q < m → separated_on sign item n q ≡ separated_on sign item m q)
        → (a : A) (r : Text) → length r ≤ n → length r ≤ m → step n a r ≡ step m a r
    step-enough n m ih a [] h k = refl
    step-enough n m ih a (b ∷ q) h k = by (eqb sign b) refl
      where
        by : (t : Bool) → eqb sign b ≡ t → step n a (b ∷ q) ≡ step m a (b ∷ q)
        by true e = rw (step-sign n a b q e, step-sign m a b q e, ih q (omega arith) (omega arith))
        by false e = step_other n a b q e ∙ sym (step_other m a b q e)

    enough : (n m : ℕ) (s : Text) → length s < n → length s < m → separated_on sign item n s ≡ separated_on sign item m s
    unfolding separated_on
    enough zero m s h k = absurd (omega arith)
    enough (suc n) zero s h k = absurd (omega arith)
    enough (suc n) (suc m) s h k = by (λ q. enough n m q) (item s) refl
      where
        by : ((q : Text) → length q < n → length q < m → separated_on sign item n q ≡ separated_on sign item m q)
            → (i : Past A) → item s ≡ i → onward i (step n) ≡ onward i (step m)
        by ih (past a r) e = let l = shorter s a r e in step-enough n m ih a r (omega arith) (omega arith)
        by ih (stuck r) e = refl

    -- A list is an entry and what is behind it.
    list-is : (s : Text) → list s ≡ (bare item ⨾ more) s
    unfolding separated_on
    list-is s = by (item s) refl
      where
        tail : (a : A) (r : Text) → length r ≤ length s → forget (step (length s) a r) ≡ more r
        tail a [] h = refl
        tail a (b ∷ q) h = tell (eqb sign b) refl
          where
            tell : (t : Bool) → eqb sign b ≡ t → forget (step (length s) a (b ∷ q)) ≡ more (b ∷ q)
            tell true e =
                rw (step-sign (length s) a b q e, e, more)
                (forget-last (separated_on sign item (length s) q) (λ as' _. a ∷ as')
                ∙ ap forget (enough (length s) (suc (length q)) q (omega arith) (omega arith)))
            tell false e = rw (step_other (length s) a b q e, e, more)

        by : (i : Past A) → item s ≡ i → forget (onward i (step (length s))) ≡ onward (forget i) (λ _ r. more r)
        by (past a r) e = tail a r (shorter s a r e)
        by (stuck r) e = refl

    abbrev End : Text → Type 0
    End q = May q × Unless (eqb sign) q

    list_on : (p q : Text) → bare item (p ++ q) ≡ past tt q → list (p ++ q) ≡ more q
    list_on p q e = list-is (p ++ q) ∙ rw e

    list-end : (p q : Text) → bare item (p ++ q) ≡ past tt q → Unless (eqb sign) q → list (p ++ q) ≡ past tt q
    list-end p q e k = list_on p q e ∙ more-end q k

    list-again : (p x : Text) → bare item (p ++ (sign ∷ x)) ≡ past tt (sign ∷ x) → list ((p ++ (sign ∷ [])) ++ x) ≡ list x
    list-again p x e = rw (append_assoc p (sign ∷ []) x) (list_on p (sign ∷ x) e ∙ rw (T→true (eqb sign sign) (eqb_refl sign), more))

    list-stops : {s r : Text} → Passed May (bare item) s r → Unless (eqb sign) r → Passed End list s r
    list-stops h k =
        record {
          read = h.read;
          whole = h.whole;
          alike = λ c x y e. list-end h.read (c ∷ y) (h.alike c x y e) (subst (Unless (eqb sign)) e k);
          goes_on = λ q i. list-end h.read q (h.goes_on q i.0) i.1;
        }

    behind : (s r : Text) → Passed May (bare item) s r → ((q : Text) → length q < length r → Ran End list q (list q)) → Ran End list s (more r)
    behind s [] h ih = list-stops h tt
    behind s (b ∷ q) h ih = tell (eqb sign b) refl
      where
        tell : (t : Bool) → eqb sign b ≡ t → Ran End list s (elim t as (λ _. Past (Unit {0})) [ true ↦ list q | false ↦ past tt (b ∷ q) ])
        tell true e =
            let p = h.read ++ (sign ∷ []) in
            let d : sign ≡ b = eqb→eq sign b (subst T (sym e) tt) in
            let w : p ++ q ≡ s = append_assoc h.read (sign ∷ []) q ∙ ap (λ c. h.read ++ (c ∷ q)) d ∙ sym h.whole in
            subst (λ s. Ran End list s (list q)) w
            (prefixed End list list p (λ x. list-again h.read x (h.goes_on (sign ∷ x) (between x))) q (list q) (ih q (omega arith)))
        tell false e = list-stops h e

    first : (s : Text) (m : Past (Unit {0})) → Ran May (bare item) s m → ((q : Text) → length q < length s → Ran End list q (list q))
        → Ran End list s (onward m (λ _ r. more r))
    first s (past a r) h ih = behind s r h (λ q k. ih q (omega (arith, length-append h.read r, ap length h.whole)))
    first s (stuck t) k ih =
        let h = k.1 in (
          k.0,
          record {
            read = h.read;
            whole = h.whole;
            alike = λ b x y i. list-is (h.read ++ (b ∷ y)) ∙ rw (h.alike b x y i);
            goes_on = λ q i. list-is (h.read ++ (k.0 ++ q)) ∙ rw (h.goes_on q i.0) (more-end q i.1);
          },
        )

    list-ran : (n : ℕ) (s : Text) → length s < n → Ran End list s (list s)
    list-ran zero s h = absurd (omega arith)
    list-ran (suc n) s h = rw (list-is s) (first s (bare item s) (f.ran s) (λ q k. list-ran n q (omega arith)))

    pub list_lawful : Lawful End list
    list_lawful =
        record {
          some = f.some;
          reads = λ q k. list-end f.some q (f.reads q k.0) k.1;
          ran = λ s. list-ran (suc (length s)) s (omega arith);
        }
