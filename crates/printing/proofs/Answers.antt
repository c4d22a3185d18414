-- The text of an answer: its head and the lines of its labels, and whether both fit.
-- Assumes nothing.
use mathlib.Core.Path.{◌≡◌, ap, ◌∙◌}
use mathlib.Core.Bool.{Bool}
use mathlib.Core.List.{List, ◌∷◌, ◌++◌, append_assoc, map}
use Prim.Native.Nat.{ℕ, ◌+◌, ◌-◌, ◌≤◌}
use native.Mathlib.Omega.{arith}
use lib.Dec.{leb}
use lib.ListN.{length, length-append, length-map}
use Rattle.meaning.specs.Bytes.{Text, ascii}
use Rattle.meaning.proofs.Tests.{leb-behind}
use Rattle.grammar.specs.Forms.{lf}
use Rattle.grammar.specs.Marks.{decimal}
use Rattle.grammar.specs.Printed.{line, answer_text}
use Rattle.label_texts.specs.Packed.{name_texts, counts_of}
use Rattle.printing.specs.Steps.{answer_head}
use Rattle.printing.proofs.Heads.{length-head}
use Rattle.printing.proofs.LabelLines.{lines_from}

pub length-answer-head : (rounds count : ℕ) → length (answer_head rounds count) ≤ 80
unfolding answer_head
length-answer-head rounds count = length-head (ascii "answer=ok\n") (ascii "rounds=") rounds (ascii "labels=") count (omega arith)

module _ (names : List ℕ) (rounds : ℕ) (labels : List ℕ) where
  abbrev pub packed_answer : Text
  packed_answer = answer_text (name_texts names) rounds (map counts_of labels)

  pub answer-joined : answer_head rounds (length labels) ++ lines_from names labels 0 ≡ packed_answer
  unfolding answer_text answer_head
  answer-joined =
      rw (length-map labels counts_of)
      (ap (λ (s : Text). ascii "answer=ok" ++ (lf ∷ s))
      (append_assoc (line (ascii "rounds=") (decimal rounds)) (line (ascii "labels=") (decimal (length labels))) (lines_from names labels 0)))

  pub length-joined : length packed_answer ≡ length (answer_head rounds (length labels)) + length (lines_from names labels 0)
  length-joined = rw (← answer-joined) (length-append (answer_head rounds (length labels)) (lines_from names labels 0))

  pub answer-fits : (room : ℕ) {size : ℕ} {b : Bool} → size ≡ length (answer_head rounds (length labels)) → size ≤ room →
      b ≡ leb (length (lines_from names labels 0)) (room - size) → b ≡ leb (length packed_answer) room
  answer-fits room {size} {b} e h t =
      t ∙ leb-behind size (length (lines_from names labels 0)) (room - size) (length packed_answer) room (omega (arith, length-joined)) (omega arith)
