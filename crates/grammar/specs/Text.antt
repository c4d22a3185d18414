-- A form is read from the start of a text: past what was read, or stuck at the byte with which nothing that
-- is due there goes on.
-- Assumes nothing.
use Rattle.std.specs.Prelude.{Bool, true, false, ◌&&◌, ◌||◌, List, [], ◌∷◌, ℕ, zero, suc, ◌+◌, ◌*◌, ◌-◌, leb, eqb, length}
use Rattle.meaning.specs.Bytes.{Text}

pub data Past (A : Type 0) : Type 0 where
  past : A → Text → Past A
  stuck : Text → Past A

abbrev pub onward : {A B : Type 0} → Past A → (A → Text → Past B) → Past B
onward (past a s) f = f a s
onward (stuck s) f = stuck s

-- What was read, with the place where it begins. A place is told by how many bytes of the text are left there, so that it is the same in
-- every rest of one text.
pub record Placed (A : Type 0) : Type 0 where
  pub it : A
  pub from : ℕ

abbrev pub placed : {A : Type 0} → (Text → Past A) → Text → Past (Placed A)
placed form s = onward (form s) (λ a r. past (record { it = a; from = length s }) r)

unfoldable pub same_text : Text → Text → Bool
same_text [] [] = true
same_text [] (c ∷ t) = false
same_text (b ∷ s) [] = false
same_text (b ∷ s) (c ∷ t) = eqb b c && same_text s t

-- A word that must stand there as it is.
unfoldable pub literal : Text → Text → Past (Unit {0})
literal [] s = past tt s
literal (w ∷ ws) [] = stuck []
literal (w ∷ ws) (b ∷ s) = elim (eqb w b) [ true ↦ literal ws s | false ↦ stuck (b ∷ s) ]

abbrev pub byte : ℕ → Text → Past (Unit {0})
byte b = literal (b ∷ [])

abbrev pub starts : ℕ → Text → Bool
starts b [] = false
starts b (c ∷ s) = eqb b c

-- A line ends with LF, which belongs to its form.
abbrev pub lf : ℕ
lf = 10

abbrev pub ended : Text → Past (Unit {0})
ended = byte lf

-- whether a word is all that is left of the line
unfoldable pub is_rest : Text → Text → Bool
is_rest [] s = starts lf s
is_rest (w ∷ ws) [] = false
is_rest (w ∷ ws) (b ∷ s) = eqb w b && is_rest ws s

-- A decimal number: one or two digits, no leading zero.
unfoldable pub is_digit : ℕ → Bool
is_digit b = leb 48 b && leb b 57

unfoldable pub is_lower : ℕ → Bool
is_lower b = leb 97 b && leb b 122

unfoldable pub second_digit : ℕ → Text → Past ℕ
second_digit first [] = past first []
second_digit first (b ∷ s) = elim (is_digit b) [ true ↦ past (10 * first + (b - 48)) s | false ↦ past first (b ∷ s) ]

unfoldable pub number : Text → Past ℕ
number [] = stuck []
number (b ∷ s) = elim (is_digit b) [ true ↦ elim (eqb b 48) [ true ↦ past 0 s | false ↦ second_digit (b - 48) s ] | false ↦ stuck (b ∷ s) ]

-- A name: a lower-case letter, then up to 7 lower-case letters or digits.
unfoldable pub word_on : ℕ → Text → Past Text
word_on zero s = past [] s
word_on (suc more) [] = past [] []
word_on (suc more) (b ∷ s) = elim (is_lower b || is_digit b) [ true ↦ onward (word_on more s) (λ w r. past (b ∷ w) r) | false ↦ past [] (b ∷ s) ]

unfoldable pub word : Text → Past Text
word [] = stuck []
word (b ∷ s) = elim (is_lower b) [ true ↦ onward (word_on 7 s) (λ w r. past (b ∷ w) r) | false ↦ stuck (b ∷ s) ]

-- One or more of the same form, with a separator between them; at most so many.
unfoldable pub separated_on : {A : Type 0} → ℕ → (Text → Past A) → ℕ → Text → Past (List A)
separated_on by item zero s = stuck s
separated_on by item (suc more) s =
    onward (item s) (λ a r. elim (starts by r) [
      | true ↦ onward (byte by r) (λ _ q. onward (separated_on by item more q) (λ as' p. past (a ∷ as') p))
      | false ↦ past (a ∷ []) r
    ])

-- (of a text there are not more entries than bytes)
abbrev pub separated : {A : Type 0} → ℕ → (Text → Past A) → Text → Past (List A)
separated by item s = separated_on by item (suc (length s)) s
