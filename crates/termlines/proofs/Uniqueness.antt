-- What is promised of the lines of terms settles the answer, and both areas where no line is bad.
-- Assumes nothing.
use mathlib.Core.Path.{◌≡◌, refl}
use mathlib.Core.List.{List, [], map}
use mathlib.Core.Logic.Dec
use Prim.Native.Nat.{ℕ, ◌+◌, ◌*◌}
use native.Mathlib.Decide.{map_dec, dec_le}
use lib.ListN.{length}
use Rattle.std.specs.Prelude.{Result, OnOk}
use Rattle.meaning.specs.Bytes.{Text}
use Rattle.meaning.proofs.Alike.{alike}
use Rattle.table.specs.Decoded.{name_of}
use Rattle.table.specs.Holding.{names_in}
use Rattle.grammar.specs.Reading.{take_term, lines}
use Rattle.keyed.specs.declared.BadLine.{BadLine}
use Rattle.sections.proofs.Uniqueness.{on_ok, passes-once, given-once}
use Rattle.termlines.specs.Terms.{TermsRoom, TermsGiven}

room-decided : (line count : ℕ) (table lists : List ℕ) → Dec (TermsRoom line count table lists)
room-decided line count table lists =
    map_dec (λ x. (x.0, x.1.0, x.1.1.0, x.1.1.1)) (λ x. (x.0, (x.1, (x.2, x.3))))
    (Dec.and (dec_le line 28) (Dec.and (dec_le count 96) (Dec.and (dec_le 140 (length table)) (dec_le (64 * count) (length lists)))))

pub terms-once : {text : Text} {line equations count : ℕ} {table lists table₁ lists₁ table₂ lists₂ : List ℕ} (r s : Result ℕ BadLine)
    → TermsGiven text line equations count table lists table₁ lists₁ r → TermsGiven text line equations count table lists table₂ lists₂ s
    → (r ≡ s) × OnOk r ((table₁ ≡ table₂) × (lists₁ ≡ lists₂))
terms-once {text} {line} {equations} {count} {table} {lists} r s p q =
    let words = map (name_of 8) (names_in table) in
    given-once (room-decided line count table lists)
    (λ a b. passes-once text (lines (take_term words equations) count [] line text) (λ terms. line + count)
    (λ ts k l. (alike k.laid l.laid, alike k.listed l.listed)) r s (a.came words refl) (b.came words refl))
    (λ a b. (alike a.answered b.answered, on_ok r (alike a.tabled b.tabled, alike a.listing b.listing))) p q
