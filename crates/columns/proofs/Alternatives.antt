-- A choice by words, of which none begins with another, is lawful: where none of them stands, the one that goes farthest decides.
-- Assumes nothing.
use mathlib.Core.Path.{◌≡◌, refl, sym, ap, subst, ◌∙◌}
use mathlib.Core.Bool.{Bool, true, false, ◌&&◌, true≢false}
use mathlib.Core.List.{List, [], ◌∷◌, ◌++◌, append_assoc, append-nil, append_cancel_left}
use Prim.Native.Nat.{ℕ}
use native.Mathlib.Omega.{arith}
use borrow.Author.Tests.{lt-ltb, le-ltb}
use lib.Dec.{ltb}
use lib.ListN.{length, length-append}
use Rattle.meaning.specs.Bytes.{Text}
use Rattle.meaning.specs.Rounds.{pick}
use Rattle.meaning.proofs.Tests.{and-true→}
use Rattle.grammar.specs.Text.{Past, past, stuck, onward, literal}
use Rattle.grammar.specs.Forms.{Line, Kind, farther, of_kind}
use Rattle.grammar.proofs.Onwards.{literal→, literal←}
use Rattle.columns.proofs.Runs.{Form, forget, bare, ◌⨾◌, Run, Passed, Halted, Ran, Lawful, Any, stuck-past, prefixed, run-alike, lawful-same}
use Rattle.columns.proofs.Runs.{then-lawful}
use Rattle.columns.proofs.Signs.{literal-lawful}

-- Of two beginnings of a text one goes on beyond the other.
data Reach (p q : Text) : Type 0 where
  beyond : (b : ℕ) (z : Text) → q ≡ p ++ (b ∷ z) → Reach p q
  upto : (z : Text) → p ≡ q ++ z → Reach p q

reach : (p q r t : Text) → p ++ r ≡ q ++ t → Reach p q
reach [] [] r t e = upto [] refl
reach [] (c ∷ q) r t e = beyond c q refl
reach (b ∷ p) [] r t e = upto (b ∷ p) refl
reach (b ∷ p) (c ∷ q) r t e = next (reach p q r t (cc))
  where
    next : Reach p q → Reach (b ∷ p) (c ∷ q)
    next (beyond d z i) = beyond d z (cc)
    next (upto z i) = upto z (cc)

-- The farther of two places.
abbrev farthest : Text → Past (Unit {0}) → Past (Unit {0})
farthest s (past a r) = past tt r
farthest s (stuck t) = stuck (pick (ltb (length s) (length t)) s t)

second-farther : (b : ℕ) (z t : Text) → farthest (b ∷ (z ++ t)) (stuck t) ≡ stuck t
second-farther b z t = rw (le-ltb (length (b ∷ (z ++ t))) (length t) (omega (arith, length-append z t)))

pick_same : (t : Bool) (r : Text) → pick t r r ≡ r
pick_same true r = refl
pick_same false r = refl

first-farther : (z r : Text) → farthest r (stuck (z ++ r)) ≡ stuck r
first-farther [] r = ap {B = Past (Unit {0})} stuck (pick_same (ltb (length r) (length r)) r)
first-farther (c ∷ z) r = rw (lt-ltb (length r) (length (c ∷ (z ++ r))) (omega (arith, length-append z r)))

-- A word and what follows it, or another form.
abbrev either : Text → Form → Form → Form
either w R G s = elim (literal w s) [ past _ r ↦ R r | stuck r ↦ farthest r (G s) ]

module _ (w : Text) (R G : Form) (f : Lawful Any R) (g : Lawful Any G) (apart : (r : Text) → G w ≡ past tt r → ⊥) where
  abbrev E : Form
  E = either w R G

  at-word : (x : Text) → E (w ++ x) ≡ R x
  at-word x = rw (literal← w x, either)

  no_word : (s r : Text) {m : Past (Unit {0})} → literal w s ≡ stuck r → G s ≡ m → E s ≡ farthest r m
  no_word s r e k = rw (e, either) (ap (farthest r) k)

  module _ {on s r : Text} (t : Text) (h : Run Any (literal w) stuck on s r) where
    -- What is left of the text where the other goes beyond the word, or where the word goes as far.
    left-beyond : (p : Text) → s ≡ p ++ t → (b : ℕ) (z : Text) → p ≡ h.read ++ (b ∷ z) → r ≡ b ∷ (z ++ t)
    left-beyond p e b z i =
        append_cancel_left h.read r (b ∷ (z ++ t))
        (sym h.whole ∙ e ∙ ap (λ p. p ++ t) i ∙ append_assoc h.read (b ∷ z) t)

    left-upto : (p : Text) → s ≡ p ++ t → (z : Text) → h.read ≡ p ++ z → t ≡ z ++ r
    left-upto p e z i = append_cancel_left p t (z ++ r) (sym e ∙ h.whole ∙ ap (λ q. q ++ r) i ∙ append_assoc p z r)

    -- Beyond the word nothing brings it back.
    kept : (p : Text) → s ≡ p ++ t → (b : ℕ) (z : Text) → p ≡ h.read ++ (b ∷ z) → (q : Text) → literal w (p ++ q) ≡ stuck (b ∷ (z ++ q))
    kept p e b z i q = rw (i, append_assoc h.read (b ∷ z) q) (h.alike b (z ++ t) (z ++ q) (left-beyond p e b z i))

    -- The word is what was read and what goes on from there.
    word-is : w ≡ h.read ++ on
    word-is =
        sym (append-nil w)
        ∙ sym ((literal→ w (h.read ++ (on ++ []))).holds tt [] (h.goes_on [] tt))
        ∙ ap (λ x. h.read ++ x) (append-nil on)

    other-passed : (k : Passed Any G s t) → Reach h.read k.read → (q : Text) → E (k.read ++ q) ≡ past tt q
    other-passed k (beyond b z i) q = no_word (k.read ++ q) (b ∷ (z ++ q)) (kept k.read k.whole b z i q) (k.goes_on q tt)
    other-passed k (upto z i) q =
        let e : w ≡ k.read ++ (z ++ on) = word-is ∙ ap (λ x. x ++ on) i ∙ append_assoc k.read z on in
        absurd (apart (z ++ on) (ap G e ∙ k.goes_on (z ++ on) tt))

    other-halted : {more : Text} (k : Run Any G stuck more s t) → Reach h.read k.read → Ran Any E s (farthest r (stuck t))
    other-halted {more} k (beyond b z i) =
        subst (Ran Any E s) (sym (ap (λ r. farthest r (stuck t)) (left-beyond k.read k.whole b z i) ∙ second-farther b z t)) (
          more,
          record {
            read = k.read;
            whole = k.whole;
            alike = λ c x y e.
                no_word (k.read ++ (c ∷ y)) (b ∷ (z ++ (c ∷ y))) (kept k.read k.whole b z i (c ∷ y)) (k.alike c x y e)
                ∙ second-farther b z (c ∷ y);
            goes_on = λ q _.
                no_word (k.read ++ (more ++ q)) (b ∷ (z ++ (more ++ q))) (kept k.read k.whole b z i (more ++ q)) (k.goes_on q tt);
          },
        )
    other-halted k (upto z i) =
        subst (Ran Any E s) (sym (ap (λ t. farthest r (stuck t)) (left-upto k.read k.whole z i) ∙ first-farther z r)) (
          on ++ f.some,
          record {
            read = h.read;
            whole = h.whole;
            alike = λ c x y e.
                no_word (h.read ++ (c ∷ y)) (c ∷ y) (h.alike c x y e)
                (ap (λ p. G (p ++ (c ∷ y))) i ∙ ap G (append_assoc k.read z (c ∷ y))
                ∙ run-alike k z c x y (left-upto k.read k.whole z i ∙ ap (λ x. z ++ x) e))
                ∙ first-farther z (c ∷ y);
            goes_on = λ q _. rw (append_assoc on f.some q, h.goes_on (f.some ++ q) tt, either) (f.reads q tt);
          },
        )

  second : (s r : Text) → Halted Any (literal w) s r → (m : Past (Unit {0})) → Ran Any G s m → Ran Any E s (farthest r m)
  second s r h (past a t) k =
      let e = other-passed t h.1 k (reach h.1.read k.read r t (sym h.1.whole ∙ k.whole)) in
      record { read = k.read; whole = k.whole; alike = λ b x y _. e (b ∷ y); goes_on = λ q _. e q }
  second s r h (stuck t) k = other-halted t h.1 k.1 (reach h.1.read k.1.read r t (sym h.1.whole ∙ k.1.whole))

  first : (s : Text) (m : Past (Unit {0})) → literal w s ≡ m → Ran Any (literal w) s m
      → Ran Any E s (elim m as (λ _. Past (Unit {0})) [ past _ r ↦ R r | stuck r ↦ farthest r (G s) ])
  first s (past a r) e h = subst (λ s. Ran Any E s (R r)) (sym ((literal→ w s).holds tt r e)) (prefixed Any E R w at-word r (R r) (f.ran r))
  first s (stuck r) e h = second s r h (G s) (g.ran s)

  either_lawful : Lawful Any E
  either_lawful =
      record {
        some = w ++ f.some;
        reads = λ q _. rw (append_assoc w f.some q) (at-word (f.some ++ q) ∙ f.reads q tt);
        ran = λ s. first s (literal w s) refl ((literal-lawful w).ran s);
      }

-- A choice by words is one by its first word, or by the others.
farther-bare : (s : Text) (m : Past Line) → forget (farther s m) ≡ farthest s (forget m)
farther-bare s (past l r) = refl
farther-bare s (stuck t) = refl

kind-either : (k : Kind) (ks : List Kind) (s : Text) → bare (of_kind (k ∷ ks)) s ≡ either k.word (bare k.rest) (bare (of_kind ks)) s
unfolding of_kind
kind-either k ks s = by (literal k.word s)
  where
    by : (m : Past (Unit {0})) → forget {A = Line} (elim m as (λ _. Past Line) [ past _ r ↦ k.rest r | stuck r ↦ farther r (of_kind ks s) ])
        ≡ elim m as (λ _. Past (Unit {0})) [ past _ r ↦ bare k.rest r | stuck r ↦ farthest r (bare (of_kind ks) s) ]
    by (past a r) = refl
    by (stuck r) = farther-bare r (of_kind ks s)

last-kind : (k : Kind) (s : Text) → bare (of_kind (k ∷ [])) s ≡ (literal k.word ⨾ bare k.rest) s
unfolding of_kind
last-kind k s = kind-either k [] s ∙ by (literal k.word s) ((literal-lawful k.word).ran s)
  where
    by : (m : Past (Unit {0})) → Ran Any (literal k.word) s m
        → elim m as (λ _. Past (Unit {0})) [ past _ r ↦ bare k.rest r | stuck r ↦ farthest r (stuck s) ] ≡ onward m (λ _ r. bare k.rest r)
    by (past a r) h = refl
    by (stuck r) h = ap (λ s. farthest r (stuck s)) h.1.whole ∙ first-farther h.1.read r

-- Kinds of which no word begins with another, and what follows each of them is lawful.
abbrev is_stuck : Past Line → Bool
is_stuck (past l r) = false
is_stuck (stuck r) = true

abbrev pub apart : List Kind → Bool
apart [] = true
apart (k ∷ ks) = is_stuck (of_kind ks k.word) && apart ks

infixr 40 ◌and◌
abbrev pub ◌and◌ : {A B : Type 0} → A → B → A × B
◌and◌ a b = (a, b)

abbrev pub Lawfuls : List Kind → Type 0
Lawfuls [] = Unit {0}
Lawfuls (k ∷ ks) = Lawful Any (bare k.rest) × Lawfuls ks

not-past : (m : Past Line) → is_stuck m ≡ true → (r : Text) → forget m ≡ past tt r → ⊥
not-past (past l q) h r e = true≢false (sym h)
not-past (stuck q) h r e = stuck-past e

pub kinds-lawful : (k : Kind) (ks : List Kind) → apart (k ∷ ks) ≡ true → Lawfuls (k ∷ ks) → Lawful Any (bare (of_kind (k ∷ ks)))
kinds-lawful k [] e h = lawful-same (last-kind k) (then-lawful (literal-lawful k.word) h.0 (λ x r e. tt))
kinds-lawful k (j ∷ ks) e h =
    let a = and-true→ (is_stuck (of_kind (j ∷ ks) k.word)) (apart (j ∷ ks)) e in
    lawful-same (kind-either k (j ∷ ks))
    (either_lawful k.word (bare k.rest) (bare (of_kind (j ∷ ks))) h.0 (kinds-lawful j ks a.1 h.1)
    (not-past (of_kind (j ∷ ks) k.word) a.0))
