-- The texts of two tallies, of none and one whose figures are all different, which the checker computes.
-- Assumes nothing.
use mathlib.Core.Path.{◌≡◌, refl}
use mathlib.Core.List.{[], ◌∷◌}
use Rattle.meaning.specs.Labels.{size}
use Rattle.grammar.specs.Marks.{digits}
use Rattle.grammar.proofs.Texts.{text}
use Rattle.tally.specs.declared.Tally.{Tally}
use Rattle.tally_texts.specs.Texts.{reason_lines, tally_text}

abbrev of_none : Tally
of_none = record { descriptions = 0; answered = 0; refusals = 0 ∷ 0 ∷ 0 ∷ 0 ∷ 0 ∷ 0 ∷ 0 ∷ []; labels = 0; rounds = 0 }

abbrev of_many : Tally
of_many = record { descriptions = 198; answered = 100; refusals = 11 ∷ 12 ∷ 13 ∷ 14 ∷ 15 ∷ 16 ∷ 17 ∷ []; labels = 2048; rounds = 9 }

pub none-counted :
    tally_text of_none
    ≡ text
    ("descriptions=0" ∷ "answered=0" ∷ "refused=0" ∷ "reason1=0" ∷ "reason2=0" ∷ "reason3=0" ∷ "reason4=0" ∷ "reason5=0" ∷ "reason7=0" ∷ "reason10=0"
    ∷ "labels=0" ∷ "rounds=0" ∷ [])
unfolding tally_text reason_lines size digits
none-counted = refl

pub many-counted :
    tally_text of_many
    ≡ text
    ("descriptions=198" ∷ "answered=100" ∷ "refused=98" ∷ "reason1=11" ∷ "reason2=12" ∷ "reason3=13" ∷ "reason4=14" ∷ "reason5=15" ∷ "reason7=16"
    ∷ "reason10=17" ∷ "labels=2048" ∷ "rounds=9" ∷ [])
unfolding tally_text reason_lines size digits
many-counted = refl
