-- What is promised of the lines after the terms settles the answer, and both areas where no line is bad.
-- Assumes nothing.
use mathlib.Core.Path.{◌≡◌, refl, sym, ap, ◌∙◌}
use mathlib.Core.List.{List, [], map}
use mathlib.Core.Logic.Dec
use Prim.Native.Nat.{ℕ}
use native.Mathlib.Decide.{map_dec, dec_le}
use lib.ListN.{length}
use Rattle.std.specs.Prelude.{Result, Ok, OnOk}
use Rattle.meaning.specs.Bytes.{Text}
use Rattle.meaning.proofs.Alike.{alike}
use Rattle.table.specs.Decoded.{name_of}
use Rattle.table.specs.Encoded.{order_for}
use Rattle.table.specs.Holding.{names_in}
use Rattle.grammar.specs.Reading.{Walk, Reading, read, overlong, bad_line, described, from_bodies}
use Rattle.table.specs.declared.Order.{Order}
use Rattle.words.specs.declared.Taken.{Taken}
use Rattle.keyed.specs.declared.BadLine.{BadLine}
use Rattle.sections.proofs.Uniqueness.{on_ok, given-once}
use Rattle.feet.specs.Feet.{Footing, foot_text}
use Rattle.feet.specs.Ends.{EndLeft, EndRoom, EndGiven}

room-decided : (line equations table : ℕ) → Dec (EndRoom line equations table)
room-decided line equations table =
    map_dec (λ x. (x.0, x.1.0, x.1.1)) (λ x. (x.0, (x.1, x.2)))
    (Dec.and (dec_le line 124) (Dec.and (dec_le equations 16) (dec_le 140 table)))

module _ (table listed table₁ listed₁ table₂ listed₂ : List ℕ) (r s : Result (Taken Order) BadLine) where
  left-once : (words : List Text) (equations : ℕ) (due : Walk Footing) (x : Reading) → EndLeft words [] equations due x table listed table₁ listed₁ r
      → EndLeft words [] equations due x table listed table₂ listed₂ s → (r ≡ s) × OnOk r ((table₁ ≡ table₂) × (listed₁ ≡ listed₂))
  left-once words equations due (read d o) p q =
      let e = alike p.rooted q.rooted in
      let t : p.rest ≡ q.rest = cc in (
        p.answered ∙ ap (λ t. Ok (record { value = order_for o; bytes = length t })) t ∙ sym q.answered,
        on_ok r (alike p.tabled q.tabled, alike p.ordered q.ordered),
      )
  left-once words equations due overlong p q = absurd p
  left-once words equations due (bad_line f line) p q = (alike p.answered q.answered, rw p.answered tt)

pub end-once : {text : Text} {line equations terms : ℕ} {table listed table₁ listed₁ table₂ listed₂ : List ℕ} (r s : Result (Taken Order) BadLine)
    → EndGiven text line equations terms table listed table₁ listed₁ r → EndGiven text line equations terms table listed table₂ listed₂ s
    → (r ≡ s) × OnOk r ((table₁ ≡ table₂) × (listed₁ ≡ listed₂))
end-once {text} {line} {equations} {terms} {table} {listed} {table₁} {listed₁} {table₂} {listed₂} r s p q =
    let words = map (name_of 8) (names_in table) in
    given-once (room-decided line equations (length table))
    (λ a b. left-once table listed table₁ listed₁ table₂ listed₂ r s words equations (foot_text equations terms line text)
    (described (from_bodies words [] equations terms line text)) (a.came words [] refl) (b.came words [] refl))
    (λ a b. (alike a.answered b.answered, on_ok r (alike a.tabled b.tabled, alike a.ordered b.ordered))) p q
