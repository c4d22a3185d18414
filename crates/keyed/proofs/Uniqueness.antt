-- Any two results that meet a promise of this crate are equal.
-- Assumes nothing.
use mathlib.Core.Path.{◌≡◌, refl, sym, ap, ap₂, ◌∙◌}
use mathlib.Core.List.{List, [], ◌∷◌, ◌++◌, map}
use Prim.Native.Nat.{ℕ, ◌^◌, ◌<◌}
use native.Mathlib.Omega.{arith}
use lib.ListN.{drop}
use Rattle.std.specs.Prelude.{Result, Ok, Err, IfOk}
use Rattle.meaning.specs.Bytes.{Text}
use Rattle.meaning.proofs.Alike.{alike}
use Rattle.table.specs.Decoded.{name_of}
use Rattle.table.specs.Encoded.{word_of}
use Rattle.grammar.specs.Reading.{Walk, halted}
use Rattle.faults.specs.CodedFaults.{flaw_of}
use Rattle.faults.proofs.Uniqueness.{flaw-unique}
use Rattle.words.proofs.Looked.{word-name}
use Rattle.words.proofs.Uniqueness.{place-unique}
use Rattle.keyed.specs.Walks.{walk_of, TookOf, Walks}
use Rattle.keyed.specs.Numbers.{NumberTo}
use Rattle.words.specs.declared.Taken.{Taken}
use Rattle.keyed.specs.declared.BadLine.{BadLine}

-- A bad line is settled by its flaw and its number.
pub bad-unique : {A : Type 0} (a b : BadLine) → ◌≡◌ {A = Walk A} (halted (flaw_of a.flaw) a.line) (halted (flaw_of b.flaw) b.line) → a ≡ b
bad-unique a b e =
    let h : flaw_of a.flaw ≡ flaw_of b.flaw = cc in
    let k : a.line ≡ b.line = cc in
    ap₂ (λ f l. record { flaw = f; line = l }) (flaw-unique a.flaw b.flaw (flaw_of b.flaw) h refl) k

-- What was read: the bytes are settled by the text behind them, the number by what it says.
abbrev pub Telling : {A : Type 0} → (f g : ℕ → A) → Result (Taken ℕ) BadLine → Result (Taken ℕ) BadLine → Type 0
Telling f g (Ok t) (Ok u) = f t.value ≡ g u.value → t.value ≡ u.value
Telling f g (Ok t) (Err b) = Unit {0}
Telling f g (Err a) (Ok u) = Unit {0}
Telling f g (Err a) (Err b) = Unit {0}

pub walk-unique : {A : Type 0} (f g : ℕ → A) (text : Text) (next : ℕ) (r s : Result (Taken ℕ) BadLine) → walk_of f text next r ≡ walk_of g text next s
    → TookOf text next r → TookOf text next s → Telling f g r s → r ≡ s
walk-unique f g text next (Ok t) (Ok u) e p q tells =
    let x : f t.value ≡ g u.value = cc in
    let d : drop t.bytes text ≡ drop u.bytes text = cc in
    ap₂ (λ v n. Ok (record { value = v; bytes = n })) (tells x) (place-unique text t.bytes u.bytes p q d)
walk-unique f g text next (Ok t) (Err b) e p q tells = let z : ◌≡◌ {A = ℕ} 0 1 = cc in absurd (omega arith)
walk-unique f g text next (Err a) (Ok u) e p q tells = let z : ◌≡◌ {A = ℕ} 0 1 = cc in absurd (omega arith)
walk-unique f g text next (Err a) (Err b) e p q tells = ap Err (bad-unique a b e)

-- One line: what it holds is settled where numbers that say the same are equal.
line-unique : {A : Type 0} (value : ℕ → A) {text : Text} {next : ℕ} {due : Walk A} (r s : Result (Taken ℕ) BadLine) → Telling value value r s
    → Walks value text next r due → Walks value text next s due → r ≡ s
line-unique value {text} {next} r s tells p q = walk-unique value value text next r s (alike p.says q.says) p.within q.within tells

pub number-unique : {text : Text} {line below : ℕ} {due : Walk ℕ} (r s : Result (Taken ℕ) BadLine)
    → NumberTo text line below r due → NumberTo text line below s due → r ≡ s
number-unique r s p q = line-unique (λ n. n) r s (itself r s) p.walks q.walks
  where
    itself : (r s : Result (Taken ℕ) BadLine) → Telling (λ n. n) (λ n. n) r s
    itself (Ok t) (Ok u) = λ e. e
    itself (Ok t) (Err b) = tt
    itself (Err a) (Ok u) = tt
    itself (Err a) (Err b) = tt

-- (a name is a word)
abbrev pub InWord : Result (Taken ℕ) BadLine → Type 0
InWord r = IfOk r (λ t. t.value < 2 ^ 64)

module _ (names : List ℕ) where
  abbrev with_name : ℕ → List Text
  with_name w = map (name_of 8) names ++ (name_of 8 w ∷ [])

  named : (r s : Result (Taken ℕ) BadLine) → InWord r → InWord s → Telling with_name with_name r s
  named (Ok t) (Ok u) a b =
      λ e. sym (word-name 8 t.value a) ∙ ap word_of (last_of (map (name_of 8) names) (name_of 8 t.value) (name_of 8 u.value) e) ∙ word-name 8 u.value b
    where
      last_of : (xs : List Text) (x y : Text) → xs ++ (x ∷ []) ≡ xs ++ (y ∷ []) → x ≡ y
      last_of [] x y e = cc
      last_of (z ∷ xs) x y e = let k : xs ++ (x ∷ []) ≡ xs ++ (y ∷ []) = cc in last_of xs x y k
  named (Ok t) (Err y) a b = tt
  named (Err x) (Ok u) a b = tt
  named (Err x) (Err y) a b = tt

  pub name-unique : {text : Text} {next : ℕ} {due : Walk (List Text)} (r s : Result (Taken ℕ) BadLine) → InWord r → InWord s
      → Walks with_name text next r due → Walks with_name text next s due → r ≡ s
  name-unique r s a b p q = line-unique with_name r s (named r s a b) p q
