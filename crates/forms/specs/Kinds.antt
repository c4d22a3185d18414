-- The kind's word as the code finds it.
-- Assumes nothing.
use Rattle.std.specs.Prelude.{◌≡◌, [], ◌++◌, ℕ, ◌≤◌, ◌<◌, Ok, Err, length, get_or, drop}
use Rattle.meaning.specs.Bytes.{Text}
use Rattle.grammar.specs.Text.{Past, stuck}
use Rattle.grammar.specs.Forms.{Line, Kind, kinds, of_kind}
use Rattle.words.specs.Steps.{Reading, Stands}

-- past the kinds nothing is due
abbrev pub no_kind : Kind
no_kind = record { word = []; rest = λ s. stuck s }

-- the word of the kind at a place among the kinds, and what follows it
abbrev pub kind_word : ℕ → Text
kind_word k = (get_or kinds k no_kind).word

abbrev pub rest_of : ℕ → Text → Past Line
rest_of k s = (get_or kinds k no_kind).rest s

-- A kind's word stands at a place of the text, and the text goes on behind it.
pub record KindFound (text : Text) (at k next : ℕ) : Type 0 where
  pub known : k < 17
  pub begins : drop at text ≡ kind_word k ++ drop next text
  pub within : next ≤ length text

abbrev pub KindRead : Text → ℕ → Reading ℕ → Type 0
KindRead text at (Ok t) = KindFound text at t.value t.bytes
KindRead text at (Err s) = Stands text s.after (stuck (drop s.after text)) (of_kind kinds (drop at text))
