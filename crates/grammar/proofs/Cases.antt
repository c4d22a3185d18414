-- What is printed, as one table of cases that the checker computes over the definitions: the listing of README.md, an answer without
-- labels, one with the empty label, a refusal.
-- Assumes nothing.
use mathlib.Core.Path.{◌≡◌, refl}
use mathlib.Core.List.{List, [], ◌∷◌}
use Prim.Native.String.{String}
use Rattle.meaning.specs.Bytes.{Text}
use Rattle.meaning.specs.Legal.{Each}
use Rattle.grammar.specs.Marks.{digits, followed, joined_by, part_texts}
use Rattle.grammar.specs.Printed.{printed_label, label_lines, answer_text, refused_text}
use Rattle.grammar.proofs.Marks.{names}
use Rattle.grammar.proofs.Texts.{text}

pub record Case : Type 0 where
  pub printed : Text
  pub expected : Text

abbrev prints : Text → List String → Case
prints s ls = record { printed = s; expected = text ls }

abbrev pub listing : List String
listing = "answer=ok" ∷ "rounds=2" ∷ "labels=3" ∷ "label=done:1" ∷ "label=done:2" ∷ "label=close:1" ∷ []

abbrev pub table : List Case
table =
    prints (answer_text names 2 ((1 ∷ 0 ∷ []) ∷ (2 ∷ 0 ∷ []) ∷ (0 ∷ 1 ∷ []) ∷ [])) listing
    ∷ prints (answer_text names 1 []) ("answer=ok" ∷ "rounds=1" ∷ "labels=0" ∷ [])
    ∷ prints (answer_text names 1 ((0 ∷ 0 ∷ []) ∷ [])) ("answer=ok" ∷ "rounds=1" ∷ "labels=1" ∷ "label=tau" ∷ [])
    ∷ prints (refused_text 5 12 19) ("answer=refused" ∷ "reason=5" ∷ "line=12" ∷ "column=19" ∷ [])
    ∷ []

pub computed : Each (λ c. c.printed ≡ c.expected) table
unfolding answer_text refused_text label_lines printed_label part_texts joined_by followed digits
computed = (refl, (refl, (refl, (refl, tt))))
