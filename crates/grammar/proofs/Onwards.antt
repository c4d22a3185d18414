-- Reading step by step: what a form's answer says of the steps that it is made of.
-- Assumes nothing.
use mathlib.Core.Path.{◌≡◌, refl, sym, ap, subst, subst₂}
use mathlib.Core.Bool.{Bool, true, false, not, false≢true}
use mathlib.Core.List.{[], ◌∷◌, ◌++◌}
use Prim.Native.Nat.{ℕ, suc}
use native.Mathlib.Omega.{arith}
use lib.Dec.{T, eqb, eqb→eq, eqb_refl, not_T}
use lib.ListN.{length, drop}
use Rattle.meaning.specs.Bytes.{Text}
use Rattle.meaning.proofs.Tests.{and_left, and_right, and_both, and-true→}
use Rattle.grammar.specs.Text.{Past, past, stuck, onward, same_text, literal, starts, lf, is_rest}

-- Tests.
pub T→true : (b : Bool) → T b → b ≡ true
T→true true t = refl
T→true false t = absurd t

pub T-not→false : (b : Bool) → T (not b) → b ≡ false
T-not→false true t = absurd t
T-not→false false t = refl

pub same→ : (s t : Text) → T (same_text s t) → s ≡ t
unfolding same_text
same→ [] [] h = refl
same→ [] (c ∷ t) h = absurd h
same→ (b ∷ s) [] h = absurd h
same→ (b ∷ s) (c ∷ t) h =
    let e = eqb→eq b c (and_left (eqb b c) (same_text s t) h) in
    let f = same→ s t (and_right (eqb b c) (same_text s t) h) in
    cc

pub same_refl : (s : Text) → T (same_text s s)
unfolding same_text
same_refl [] = tt
same_refl (b ∷ s) = and_both (eqb b b) (same_text s s) (eqb_refl b) (same_refl s)

-- What holds of that which was read and of the text left behind it, if anything was read.
pub record When {A : Type 0} (m : Past A) (P : A → Text → Type 0) : Type 0 where
  pub holds : (a : A) (r : Text) → m ≡ past a r → P a r

pub when-past : {A : Type 0} {P : A → Text → Type 0} {a : A} {r : Text} → P a r → When (past a r) P
when-past {P} {a} {r} h = record { holds = λ b q e. let f : a ≡ b = cc in let g : r ≡ q = cc in subst₂ P f g h }

pub when-stuck : {A : Type 0} {P : A → Text → Type 0} {r : Text} → When (stuck r) P
when-stuck = record { holds = λ a r e. let z : ◌≡◌ {A = ℕ} 0 1 = cc in absurd (omega arith) }

pub when-weaken : {A : Type 0} {m : Past A} {P Q : A → Text → Type 0} → When m P → ((a : A) (r : Text) → P a r → Q a r) → When m Q
when-weaken h k = record { holds = λ a r e. k a r (h.holds a r e) }

pub when-branch : {A : Type 0} (t : Bool) {m n : Past A} {P : A → Text → Type 0} → (T t → When m P) → (T (not t) → When n P)
    → When (elim t as (λ _. Past A) [ true ↦ m | false ↦ n ]) P
when-branch true h k = h tt
when-branch false h k = k tt

-- Two steps, looking back and looking ahead.
pub onward→ : {A B : Type 0} {m : Past A} {f : A → Text → Past B} {P : A → Text → Type 0} {Q : B → Text → Type 0}
    → When m P → ((a : A) (r : Text) → P a r → When (f a r) Q) → When (onward m f) Q
onward→ {m = past a r} h k = k a r (h.holds a r refl)
onward→ {m = stuck r} h k = when-stuck

pub onward← : {A B : Type 0} {a : A} {s : Text} {m : Past A} (f : A → Text → Past B) → m ≡ past a s → onward m f ≡ f a s
onward← f e = rw e

-- A word that must stand there; the LF that ends a line is one.
pub literal→ : (w s : Text) → When (literal w s) (λ _ r. s ≡ w ++ r)
unfolding literal
literal→ [] s = when-past refl
literal→ (c ∷ w) [] = when-stuck
literal→ (c ∷ w) (b ∷ s) = when-branch (eqb c b) (λ h. when-weaken (literal→ w s) (λ _ r q. let p = eqb→eq c b h in cc)) (λ _. when-stuck)

pub literal← : (w r : Text) → literal w (w ++ r) ≡ past tt r
unfolding literal
literal← [] r = refl
literal← (c ∷ w) r = rw (T→true (eqb c c) (eqb_refl c), literal) (literal← w r)

-- A word that is all that is left of the line: it stands there, and LF behind it.
pub rest→ : (w s : Text) → is_rest w s ≡ true → (literal w s ≡ past tt (drop (length w) s)) × (starts lf (drop (length w) s) ≡ true)
unfolding is_rest literal
rest→ [] s h = (refl, h)
rest→ (c ∷ w) [] h = absurd (false≢true h)
rest→ (c ∷ w) (b ∷ s) h = let k = and-true→ (eqb c b) (is_rest w s) h in let i = rest→ w s k.1 in (rw (k.0, literal) i.0, i.1)

pub rest← : (w s r : Text) → literal w s ≡ past tt r → starts lf r ≡ true → is_rest w s ≡ true
unfolding is_rest
rest← w s r e h = subst (λ t. is_rest w t ≡ true) (sym ((literal→ w s).holds tt r e)) (behind w)
  where
    behind : (w : Text) → is_rest w (w ++ r) ≡ true
    behind [] = h
    behind (c ∷ w) = rw (T→true (eqb c c) (eqb_refl c), is_rest) (behind w)

pub rest-line : (w s : Text) → T (is_rest w s) → s ≡ w ++ (lf ∷ drop (suc (length w)) s)
unfolding is_rest
rest-line [] [] h = absurd h
rest-line [] (b ∷ s) h = ap {B = Text} (λ c. c ∷ s) (sym (eqb→eq lf b h))
rest-line (c ∷ w) [] h = absurd h
rest-line (c ∷ w) (b ∷ s) h =
    let e = eqb→eq c b (and_left (eqb c b) (is_rest w s) h) in
    let f = rest-line w s (and_right (eqb c b) (is_rest w s) h) in
    cc

-- What is read is no line that is not read.
pub rest-differs : {A : Type 0} (form : Text → Past A) {a : A} {r : Text} (w s : Text)
    → form s ≡ past a r → ((q : Text) → form (w ++ (lf ∷ q)) ≡ past a r → ⊥) → is_rest w s ≡ false
rest-differs form {a} {r} w s e f =
    T-not→false (is_rest w s) (not_T (is_rest w s) (λ h. f (drop (suc (length w)) s) (subst (λ t. form t ≡ past a r) (rest-line w s h) e)))
