-- The longest beginning of a text with which some line of a form begins, said of the lines themselves and not of how they are read.
-- Assumes nothing.
use Rattle.std.specs.Prelude.{◌≡◌, Bool, true, false, not, ◌&&◌, [], ◌∷◌, ◌++◌, ℕ, suc, ◌≤◌, ◌<◌, T, eqb, length, take}
use Rattle.meaning.specs.Bytes.{Text}
use Rattle.grammar.specs.Text.{Past, past, Placed, lf}
use Rattle.grammar.specs.Forms.{Line, OrderLine, count_line, name_line, term_line, order_line}

-- Whether there is no LF in a text; and the line with which a text begins, with its LF where it has one.
abbrev pub in_line : Text → Bool
in_line [] = true
in_line (b ∷ s) = not (eqb lf b) && in_line s

abbrev pub first_line : Text → Text
first_line [] = []
first_line (b ∷ s) = elim (eqb lf b) [ true ↦ b ∷ [] | false ↦ b ∷ first_line s ]

-- The lines that can be due at a place, and the form of each.
pub data Due : Type 0 where
  count : (key : Text) → Due
  name term order : Due

abbrev pub Said : Due → Type 0
Said (count key) = Placed ℕ
Said name = Placed Text
Said term = Line
Said order = OrderLine

abbrev pub form_of : (d : Due) → Text → Past (Said d)
form_of (count key) = count_line key
form_of name = name_line
form_of term = term_line
form_of order = order_line

-- (a key that holds no LF, as those of descriptions do)
abbrev pub KeyInLine : Due → Type 0
KeyInLine (count key) = T (in_line key)
KeyInLine name = Unit {0}
KeyInLine term = Unit {0}
KeyInLine order = Unit {0}

-- A line of right form: its form reads it whole, LF included.
abbrev pub IsLine : {A : Type 0} → (Text → Past A) → Text → Type 0
IsLine {A} form l = (a : A) × (form l ≡ past a [])

-- A text begins with another.
abbrev pub Begins : Text → Text → Type 0
Begins p l = (c : Text) × (l ≡ p ++ c)

-- The first k bytes of a text are its longest beginning with which some line of the form begins.
pub record Longest {A : Type 0} (form : Text → Past A) (s : Text) (k : ℕ) : Type 0 where
  pub within : k ≤ length s
  pub goes_on : (l : Text) × IsLine form l × Begins (take k s) l
  pub stops : k < length s → (l : Text) → IsLine form l → Begins (take (suc k) s) l → ⊥
