-- A line with a name, by its form and by whether the name is free.
-- Assumes nothing.
use mathlib.Core.Path.{◌≡◌, ap}
use mathlib.Core.Bool.{true, false}
use mathlib.Core.List.{List, [], ◌∷◌, ◌++◌}
use Prim.Native.Nat.{ℕ, ◌-◌}
use lib.ListN.{length, drop}
use Rattle.meaning.specs.Bytes.{Text}
use Rattle.meaning.specs.Answers.{form, name}
use Rattle.grammar.specs.Text.{past, stuck, Placed}
use Rattle.grammar.specs.Forms.{name_line}
use Rattle.grammar.specs.Reading.{Taken, taken, faulty, taken_if, formed, is_free, take_name}
use Rattle.words.specs.Steps.{Stands}
use Rattle.keyed.proofs.LineFaults.{formed-stuck}

module _ (words : List Text) (text : Text) where
  abbrev then-name : Placed Text → Text → Taken (List Text)
  then-name w = taken_if (is_free words w.it) name w.from (words ++ (w.it ∷ []))

  pub name-stuck : {p : ℕ} → Stands text p (stuck (drop p text)) (name_line text) → faulty form (length text - p) ≡ take_name words text
  unfolding take_name
  name-stuck {p} s = formed-stuck then-name text p s.says

  module _ {w : Placed Text} {t : Text} (q : past w t ≡ name_line text) where
    read_name : then-name w t ≡ take_name words text
    unfolding take_name
    read_name = ap (λ d. formed d then-name) q

    pub name-held : is_free words w.it ≡ false → faulty name w.from ≡ take_name words text
    name-held h = rw (← read_name, h)

    pub name_free : is_free words w.it ≡ true → taken (words ++ (w.it ∷ [])) t ≡ take_name words text
    name_free h = rw (← read_name, h)
