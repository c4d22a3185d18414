-- Numbers and labels as they are written, in a description and in an answer (docs/FORMAT.md, "Labels").
-- Assumes nothing.
use Rattle.std.specs.Prelude.{true, false, List, [], ◌∷◌, ◌++◌, ℕ, zero, suc, ◌+◌, ◌/◌, ◌%◌, ltb, eqb}
use Rattle.meaning.specs.Bytes.{Text}
use Rattle.meaning.specs.Labels.{Label}
use Rattle.grammar.specs.Forms.{dot, colon}

-- A number in decimal; twenty digits hold every word.
unfoldable pub digits : ℕ → ℕ → Text
digits zero n = []
digits (suc more) n = elim (ltb n 10) [ true ↦ (48 + n) ∷ [] | false ↦ digits more (n / 10) ++ ((48 + n % 10) ∷ []) ]

abbrev pub decimal : ℕ → Text
decimal n = digits 20 n

-- Texts with a sign between them.
unfoldable pub followed : ℕ → List Text → Text
followed sign [] = []
followed sign (t ∷ ts) = sign ∷ (t ++ followed sign ts)

unfoldable pub joined_by : ℕ → List Text → Text
joined_by sign [] = []
joined_by sign (t ∷ ts) = t ++ followed sign ts

-- A label: `name:count` for each name that occurs, joined by `.`.
abbrev pub part_text : Text → ℕ → Text
part_text word times = word ++ (colon ∷ decimal times)

unfoldable pub part_texts : List Text → Label → List Text
part_texts words [] = []
part_texts [] (x ∷ a) = []
part_texts (w ∷ ws) (x ∷ a) = elim (eqb x 0) [ true ↦ part_texts ws a | false ↦ part_text w x ∷ part_texts ws a ]

abbrev pub label_text : List Text → Label → Text
label_text words a = joined_by dot (part_texts words a)
