-- The listing of README.md is printed the same over packed names and labels, which the checker computes.
-- Assumes nothing.
use mathlib.Core.Path.{◌≡◌, refl}
use mathlib.Core.List.{[], ◌∷◌, map}
use Rattle.meaning.specs.Labels.{label_of}
use Rattle.grammar.specs.Marks.{digits, joined_by, followed, part_texts}
use Rattle.grammar.specs.Printed.{printed_label, label_lines, answer_text}
use Rattle.grammar.proofs.Marks.{names}
use Rattle.grammar.proofs.Texts.{text}
use Rattle.grammar.proofs.Cases.{listing}
use Rattle.table.specs.Decoded.{name_of}
use Rattle.table.specs.Encoded.{filled, word_of}
use Rattle.label_texts.specs.Packed.{name_texts, counts_of}

pub packed-listing : answer_text (name_texts (filled 24 0 (map word_of names))) 2 (map counts_of (1 ∷ 2 ∷ 32 ∷ [])) ≡ text listing
unfolding answer_text label_lines printed_label part_texts joined_by followed digits label_of name_of filled word_of
packed-listing = refl
