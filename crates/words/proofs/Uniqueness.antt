-- Any two results that meet a reader's promise are equal.
-- Assumes nothing.
use mathlib.Core.Path.{◌≡◌, sym, ap, ap₂, ◌∙◌}
use Prim.Native.Nat.{ℕ, ◌^◌, ◌≤◌, ◌<◌}
use native.Mathlib.Omega.{arith}
use lib.ListN.{length, drop, length-drop}
use Rattle.meaning.specs.Bytes.{Text}
use Rattle.meaning.proofs.Alike.{alike}
use Rattle.table.specs.Decoded.{name_of}
use Rattle.table.specs.Encoded.{word_of}
use Rattle.grammar.specs.Text.{Past, past, stuck}
use Rattle.std.specs.Prelude.{Ok, Err}
use Rattle.words.specs.Steps.{Reading, Steps, step_of, step_place}
use Rattle.words.proofs.Looked.{word-name}

-- Steps of a line: the place is settled by the text from there on, since it lies in the line; the number by what it says.
pub place-unique : (line : Text) (m n : ℕ) → m ≤ length line → n ≤ length line → drop m line ≡ drop n line → m ≡ n
place-unique line m n h k e = omega (arith, length-drop m line, length-drop n line, ap (λ (t : Text). length t) e)

pub apart : {A : Type 0} {a : A} {s t : Text} → past a s ≡ stuck t → ⊥
apart e = let z : ◌≡◌ {A = ℕ} 0 1 = cc in omega arith

-- What was read is settled by what it says, where it is such that two of them which say the same are the same.
abbrev pub GoodStep : {T : Type 0} → (T → Type 0) → Reading T → Type 0
GoodStep good (Ok t) = good t.value
GoodStep good (Err p) = Unit {0}

module _ {T A : Type 0} (value : T → A) (good : T → Type 0) (same : (v w : T) → good v → good w → value v ≡ value w → v ≡ w) (line : Text) where
  same-steps : (r s : Reading T) → GoodStep good r → GoodStep good s → step_place r ≤ length line → step_place s ≤ length line
      → step_of value line r ≡ step_of value line s → r ≡ s
  same-steps (Ok t) (Ok u) a b h k e =
      let x : value t.value ≡ value u.value = cc in
      let y : drop t.bytes line ≡ drop u.bytes line = cc in
      ap₂ {C = Reading T} (λ (v : T) (n : ℕ). Ok (record { value = v; bytes = n })) (same t.value u.value a b x) (place-unique line t.bytes u.bytes h k y)
  same-steps (Ok t) (Err p) a b h k e = absurd (apart e)
  same-steps (Err p) (Ok u) a b h k e = absurd (apart (sym e))
  same-steps (Err p) (Err q) a b h k e =
      let y : drop p.after line ≡ drop q.after line = cc in
      ap {B = Reading T} (λ (n : ℕ). Err (record { after = n })) (place-unique line p.after q.after h k y)

  pub steps-unique : {due : Past A} {r s : Reading T} → GoodStep good r → GoodStep good s → Steps value line r due → Steps value line s due → r ≡ s
  steps-unique {r = r} {s} a b p q = same-steps r s a b p.stands.within q.stands.within (alike p.stands.says q.stands.says)

-- Of a number every value is such, and of a word that must stand there.
abbrev Any : {T : Type 0} → T → Type 0
Any v = Unit {0}

any-step : {T : Type 0} (r : Reading T) → GoodStep Any r
any-step (Ok t) = tt
any-step (Err p) = tt

module _ {T : Type 0} (line : Text) where
  same-values : {due : Past T} {r s : Reading T} → Steps (λ v. v) line r due → Steps (λ v. v) line s due → r ≡ s
  same-values {r = r} {s} = steps-unique (λ v. v) Any (λ v w a b e. e) line (any-step r) (any-step s)

pub count-unique : {line : Text} {r s : Reading ℕ} {due : Past ℕ} → Steps (λ n. n) line r due → Steps (λ n. n) line s due → r ≡ s
count-unique {line} = same-values line

pub passes-unique : {line : Text} {r s : Reading (Unit {0})} {due : Past (Unit {0})} → Steps (λ u. u) line r due → Steps (λ u. u) line s due → r ≡ s
passes-unique {line} = same-values line

-- (a name is packed in a word)
abbrev pub InWord : ℕ → Type 0
InWord w = w < 2 ^ 64

pub name-unique : {line : Text} {r s : Reading ℕ} {due : Past Text} → GoodStep InWord r → GoodStep InWord s
    → Steps (λ w. name_of 8 w) line r due → Steps (λ w. name_of 8 w) line s due → r ≡ s
name-unique {line} a b =
    steps-unique (name_of 8) InWord (λ v w p q e. sym (word-name 8 v p) ∙ ap word_of e ∙ word-name 8 w q) line a b
