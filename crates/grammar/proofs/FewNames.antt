-- A text comes to what it came to while a description had at most 12 names, unless its first line gives 13 to 24.
-- Assumes nothing.
use mathlib.Core.Path.{◌≡◌, refl, sym, ap, ◌∙◌}
use mathlib.Core.Bool.{Bool, true, false, ◌&&◌}
use Prim.Native.Nat.{ℕ, ◌≤◌, ◌<◌}
use native.Mathlib.Decide.{dec_le}
use native.Mathlib.Omega.{arith}
use borrow.Author.Tests.{le-leb, lt-leb}
use lib.Dec.{leb, ltb}
use lib.ListN.{length}
use Rattle.meaning.specs.Bytes.{Text, ascii}
use Rattle.meaning.specs.Answers.{form}
use Rattle.grammar.specs.Text.{Past, past, stuck, Placed}
use Rattle.grammar.specs.Forms.{count_line}
use Rattle.grammar.specs.Reading.{Taken, taken_if, formed, take_number, names_up_to, walk, after_line, from_names}
use Rattle.grammar.specs.Reading.{Reading, overlong, described, whole_text, read_text, read_up_to}

-- The first line gives so many names.
pub record NamesGiven (text : Text) (n : ℕ) : Type 0 where
  pub from : ℕ
  pub rest : Text
  pub line : count_line (ascii "names=") text ≡ past (record { it = n; from = from }) rest

abbrev pub ManyNames : Text → Type 0
ManyNames text = (n : ℕ) × NamesGiven text n × (12 < n) × (n ≤ 24)

-- Of a number outside of 13 to 24 both limits say the same.
same_test : (n : ℕ) → (12 < n → n ≤ 24 → ⊥) → names_up_to 12 n ≡ names_up_to 24 n
same_test n h = ap (λ (t : Bool). leb 1 n && t) (elim (dec_le n 12) [
  | yes l ↦ le-leb n 12 l ∙ sym (le-leb n 24 (omega arith))
  | no l ↦ lt-leb n 12 (omega arith) ∙ sym (lt-leb n 24 (elim (dec_le n 24) as (λ x. 24 < n) [ yes k ↦ absurd (h (omega arith) k) | no k ↦ omega arith ]))
])

same_number : (text : Text) → (ManyNames text → ⊥)
    → take_number (ascii "names=") (names_up_to 12) form text ≡ take_number (ascii "names=") (names_up_to 24) form text
unfolding take_number
same_number text few = by (count_line (ascii "names=") text) refl
  where
    by : (p : Past (Placed ℕ)) → count_line (ascii "names=") text ≡ p
        → formed p (λ n. taken_if (names_up_to 12 n.it) form n.from n.it) ≡ formed p (λ n. taken_if (names_up_to 24 n.it) form n.from n.it)
    by (past n rest) e =
        ap (λ (t : Bool). taken_if t form n.from n.it rest)
        (same_test n.it (λ (l : 12 < n.it) (k : n.it ≤ 24). few (n.it, record { from = n.from; rest = rest; line = e }, l, k)))
    by (stuck r) e = refl

pub read-as-before : (text : Text) → (ManyNames text → ⊥) → read_up_to 12 text ≡ read_text text
unfolding read_up_to read_text whole_text
read-as-before text few =
    ap (λ (t : Taken ℕ). elim (ltb 8192 (length text)) as (λ b. Reading) [
      | true ↦ overlong
      | false ↦ described (walk (after_line 1 text t) (λ n line s. from_names n line s))
    ]) (same_number text few)
