-- Forms without what they say: what a form makes of a text it makes of every text that begins alike, and where it is stuck there is a text with
-- which it goes on to its end.
-- Assumes nothing.
use mathlib.Core.Path.{◌≡◌, refl, sym, ap, subst, fun_ext, ◌∙◌}
use mathlib.Core.List.{[], ◌∷◌, ◌++◌, append_assoc}
use Prim.Native.Nat.{ℕ}
use native.Mathlib.Omega.{arith}
use Rattle.meaning.specs.Bytes.{Text}
use Rattle.grammar.specs.Text.{Past, past, stuck, onward}

-- A form, and what is left of one that says something.
abbrev pub Form : Type 0
Form = Text → Past (Unit {0})

abbrev pub forget : {A : Type 0} → Past A → Past (Unit {0})
forget (past a r) = past tt r
forget (stuck r) = stuck r

abbrev pub bare : {A : Type 0} → (Text → Past A) → Form
bare form s = forget (form s)

-- One form after another.
infixr 60 ◌⨾◌
abbrev pub ◌⨾◌ : Form → Form → Form
◌⨾◌ F G s = onward (F s) (λ _ r. G r)

-- How a form runs on a text: what it reads, what comes out at the rest, as it does at every text that begins with the same byte, and a text with
-- which the form goes on to its end, before every text that may follow it.
pub record Run (May : Text → Type 0) (F out : Form) (on s r : Text) : Type 0 where
  pub read : Text
  pub whole : s ≡ read ++ r
  pub alike : (b : ℕ) (x y : Text) → r ≡ b ∷ x → F (read ++ (b ∷ y)) ≡ out (b ∷ y)
  pub goes_on : (q : Text) → May q → F (read ++ (on ++ q)) ≡ past tt q

-- Where it is past, it is at its end; where it is stuck, some text is missing.
abbrev pub Passed : (May : Text → Type 0) (F : Form) (s r : Text) → Type 0
Passed May F s r = Run May F (past tt) [] s r

abbrev pub Halted : (May : Text → Type 0) (F : Form) (s t : Text) → Type 0
Halted May F s t = (on : Text) × Run May F stuck on s t

abbrev pub Ran : (May : Text → Type 0) → Form → Text → Past (Unit {0}) → Type 0
Ran May F s (past a r) = Passed May F s r
Ran May F s (stuck t) = Halted May F s t

pub record Lawful (May : Text → Type 0) (F : Form) : Type 0 where
  pub some : Text
  pub reads : (q : Text) → May q → F (some ++ q) ≡ past tt q
  pub ran : (s : Text) → Ran May F s (F s)

pub lawful-same : {May : Text → Type 0} {F G : Form} → ((s : Text) → G s ≡ F s) → Lawful May F → Lawful May G
lawful-same {May} e h = subst (Lawful May) (sym (fun_ext e)) h

-- Whatever may follow.
abbrev pub Any : Text → Type 0
Any s = Unit {0}

-- A form is not both past and stuck, and no text both empty and begun with a byte.
pub stuck-past : {A : Type 0} {a : A} {r t : Text} → stuck t ≡ past a r → ⊥
stuck-past e = let z : ◌≡◌ {A = ℕ} 0 1 = cc in absurd (omega arith)

pub nil-cons : {b : ℕ} {s : Text} → [] ≡ b ∷ s → ⊥
nil-cons e = let z : ◌≡◌ {A = ℕ} 0 1 = cc in absurd (omega arith)

-- Nothing is read.
pub run-empty : {May : Text → Type 0} {F out : Form} {on : Text} → ((q : Text) → May q → F (on ++ q) ≡ past tt q) → Run May F out on [] []
run-empty k = record { read = []; whole = refl; alike = λ b x y e. absurd (nil-cons e); goes_on = k }

pub run-byte : {May : Text → Type 0} {F out : Form} {on : Text} → ((q : Text) → May q → F (on ++ q) ≡ past tt q)
    → (b : ℕ) (s : Text) → ((y : Text) → F (b ∷ y) ≡ out (b ∷ y)) → Run May F out on (b ∷ s) (b ∷ s)
run-byte {F = F} {out = out} k b s e =
    record { read = []; whole = refl; alike = λ c x y i. let d : b ≡ c = cc in subst (λ c. F (c ∷ y) ≡ out (c ∷ y)) d (e y); goes_on = k }

-- A form that begins with a text and goes on as another.
run-behind : {May : Text → Type 0} {F G out : Form} {on s r : Text} (p : Text) → ((x : Text) → F (p ++ x) ≡ G x)
    → Run May G out on s r → Run May F out on (p ++ s) r
run-behind {on = on} {r = r} p e h =
    record {
      read = p ++ h.read;
      whole = ap (λ t. p ++ t) h.whole ∙ sym (append_assoc p h.read r);
      alike = λ b x y k. rw (append_assoc p h.read (b ∷ y)) (e (h.read ++ (b ∷ y)) ∙ h.alike b x y k);
      goes_on = λ q k. rw (append_assoc p h.read (on ++ q)) (e (h.read ++ (on ++ q)) ∙ h.goes_on q k);
    }

pub prefixed : (May : Text → Type 0) (F G : Form) (p : Text) → ((x : Text) → F (p ++ x) ≡ G x)
    → (s : Text) (m : Past (Unit {0})) → Ran May G s m → Ran May F (p ++ s) m
prefixed May F G p e s (past a r) h = run-behind p e h
prefixed May F G p e s (stuck t) h = (h.0, run-behind p e h.1)

-- The same bytes farther on.
pub run-alike : {May : Text → Type 0} {F out : Form} {on s r : Text} (h : Run May F out on s r) (q : Text) (b : ℕ) (x y : Text)
    → r ≡ q ++ (b ∷ x) → F (h.read ++ (q ++ (b ∷ y))) ≡ out (q ++ (b ∷ y))
run-alike h [] b x y e = h.alike b x y e
run-alike h (c ∷ q) b x y e = h.alike c (q ++ (b ∷ x)) (q ++ (b ∷ y)) e

-- One form after another, where the second begins only with what may follow the first.
module _ {May Then : Text → Type 0} {F G : Form} (f : Lawful May F) (g : Lawful Then G) (fits : (x r : Text) → G x ≡ past tt r → May x) where
  both : {out : Form} {on s r q : Text} → Passed May F s r → Run Then G out on r q → Run Then (F ⨾ G) out on s q
  both {on = on} {q = q} h k =
      record {
        read = h.read ++ k.read;
        whole = h.whole ∙ ap (λ t. h.read ++ t) k.whole ∙ sym (append_assoc h.read k.read q);
        alike = λ b x y i.
            let e = run-alike h k.read b x y (k.whole ∙ ap (λ t. k.read ++ t) i) in
            rw (append_assoc h.read k.read (b ∷ y), e) (k.alike b x y i);
        goes_on = λ o i.
            let e = k.goes_on o i in
            rw (append_assoc h.read k.read (on ++ o), h.goes_on (k.read ++ (on ++ o)) (fits (k.read ++ (on ++ o)) o e)) e;
      }

  second : {s r : Text} → Passed May F s r → (m : Past (Unit {0})) → Ran Then G r m → Ran Then (F ⨾ G) s m
  second h (past a q) k = both h k
  second h (stuck t) k = (k.0, both h k.1)

  first : (s : Text) (m : Past (Unit {0})) → Ran May F s m → Ran Then (F ⨾ G) s (onward m (λ _ r. G r))
  first s (past a r) h = second h (G r) (g.ran r)
  first s (stuck t) k =
      let h = k.1 in (
        k.0 ++ g.some,
        record {
          read = h.read;
          whole = h.whole;
          alike = λ b x y i. rw (h.alike b x y i);
          goes_on = λ o i. let e = g.reads o i in rw (append_assoc k.0 g.some o, h.goes_on (g.some ++ o) (fits (g.some ++ o) o e)) e;
        },
      )

  pub then-lawful : Lawful Then (F ⨾ G)
  then-lawful =
      record {
        some = f.some ++ g.some;
        reads = λ o i. let e = g.reads o i in rw (append_assoc f.some g.some o, f.reads (g.some ++ o) (fits (g.some ++ o) o e)) e;
        ran = λ s. first s (F s) (f.ran s);
      }
