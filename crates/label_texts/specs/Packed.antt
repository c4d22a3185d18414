-- The words that names and labels are packed in.
-- Assumes nothing.
use Rattle.std.specs.Prelude.{List, map, ℕ}
use Rattle.meaning.specs.Bytes.{Text}
use Rattle.meaning.specs.Labels.{Label, label_of}
use Rattle.table.specs.Decoded.{name_of}

-- Twenty-four names of at most eight bytes, a word each; a label's counts, of as many names, by its number.
abbrev pub name_texts : List ℕ → List Text
name_texts names = map (name_of 8) names

abbrev pub counts_of : ℕ → Label
counts_of w = label_of 24 w
