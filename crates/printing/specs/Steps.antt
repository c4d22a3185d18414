-- What a step of a writer of lines writes. Only private functions cite this: no public contract rests on it.
-- Assumes nothing.
use Rattle.std.specs.Prelude.{[], ◌∷◌, ◌++◌, ℕ}
use Rattle.meaning.specs.Bytes.{Text, ascii}
use Rattle.grammar.specs.Forms.{lf}
use Rattle.grammar.specs.Marks.{decimal}
use Rattle.grammar.specs.Printed.{line}

-- What an answer and a refusal begin with: what was said, and a line for each of two numbers.
abbrev pub head_text : Text → Text → ℕ → Text → ℕ → Text
head_text said key n next m = said ++ (line key (decimal n) ++ line next (decimal m))

-- What stands before the lines of an answer's labels.
unfoldable pub answer_head : ℕ → ℕ → Text
answer_head rounds count = head_text (ascii "answer=ok" ++ (lf ∷ [])) (ascii "rounds=") rounds (ascii "labels=") count
