-- Forms that say something, against forms that say nothing: one after another, and at a place.
-- Assumes nothing.
use mathlib.Core.Path.{◌≡◌, refl, sym, ap, subst, ◌∙◌}
use mathlib.Core.List.{[], ◌∷◌}
use Prim.Native.Nat.{ℕ}
use Rattle.meaning.specs.Bytes.{Text}
use Rattle.grammar.specs.Text.{Past, past, stuck, onward, placed, literal, byte}
use Rattle.columns.proofs.Runs.{Form, forget, bare, ◌⨾◌, Lawful, lawful-same, then-lawful}
use Rattle.columns.proofs.Signs.{literal-lawful, Opens, opens-byte, opens-then}

-- A form reads as another that says nothing.
pub record Like {A : Type 0} (form : Text → Past A) (F : Form) : Type 0 where
  pub like : (s : Text) → forget (form s) ≡ F s

pub like-bare : {A : Type 0} (form : Text → Past A) → Like form (bare form)
like-bare form = record { like = λ s. refl }

pub like-literal : (w : Text) → Like (literal w) (literal w)
like-literal w = record { like = λ s. by (literal w s) }
  where
    by : (m : Past (Unit {0})) → forget m ≡ m
    by (past a r) = refl
    by (stuck r) = refl

pub like-sign : (b : ℕ) → Like (byte b) (byte b)
like-sign b = like-literal (b ∷ [])

pub like-then : {A B : Type 0} {form : Text → Past A} {F G : Form} {f : A → Text → Past B} → Like form F → ((a : A) → Like (f a) G)
    → Like (λ s. onward (form s) f) (F ⨾ G)
like-then {A} {form = form} {G = G} {f = f} l k = record { like = λ s. by (form s) ∙ ap (λ m. onward m (λ _ r. G r)) (l.like s) }
  where
    by : (m : Past A) → forget (onward m f) ≡ onward (forget m) (λ _ r. G r)
    by (past a r) = (k a).like r
    by (stuck r) = refl

pub like-last : {A B : Type 0} {form : Text → Past A} {F : Form} (h : Text → A → B) → Like form F
    → Like (λ s. onward (form s) (λ a r. past (h s a) r)) F
like-last {A} {form = form} h l = record { like = λ s. by s (form s) ∙ l.like s }
  where
    by : (s : Text) (m : Past A) → forget (onward m (λ a r. past (h s a) r)) ≡ forget m
    by s (past a r) = refl
    by s (stuck r) = refl

-- A word, or a sign that may follow, and what comes behind it.
pub word-then : {May : Text → Type 0} {G : Form} (w : Text) → Lawful May G → Lawful May (literal w ⨾ G)
word-then w g = then-lawful (literal-lawful w) g (λ x r e. tt)

pub before-sign : {May Then : Text → Type 0} {F G : Form} (b : ℕ) → ((y : Text) → May (b ∷ y)) → Opens b G
    → Lawful May F → Lawful Then G → Lawful Then (F ⨾ G)
before-sign {May} b k o f g = then-lawful f g (λ x r e. let p = o x r e in subst May (sym p.1) (k p.0))

pub opens-sign : (b : ℕ) (G : Form) → Opens b (byte b ⨾ G)
opens-sign b G = opens-then b (byte b) G (opens-byte b)

pub placed-lawful : {A : Type 0} {May : Text → Type 0} (form : Text → Past A) → Lawful May (bare form) → Lawful May (bare (placed form))
placed-lawful form h = lawful-same (like-last _ (like-bare form)).like h
