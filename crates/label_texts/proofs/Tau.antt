-- A label with no parts is written `tau`; a label fits in 288 bytes.
-- Assumes nothing.
use mathlib.Core.Path.{◌≡◌, refl}
use mathlib.Core.List.{List, [], ◌∷◌}
use Prim.Native.Nat.{ℕ, zero, suc, ◌*◌, ◌/◌, ◌%◌, ◌≤◌, zero-le}
use native.Mathlib.Nat.{le_refl}
use native.Mathlib.Omega.{arith}
use native.Mathlib.Decide.{ℕ_discrete}
use lib.ListN.{length, length-append}
use Rattle.meaning.specs.Bytes.{Text, ascii}
use Rattle.meaning.specs.Labels.{label_of}
use Rattle.table.specs.Decoded.{name_of}
use Rattle.grammar.specs.Forms.{dot}
use Rattle.grammar.specs.Marks.{joined_by, followed, part_text, part_texts}
use Rattle.grammar.specs.Printed.{or_tau, printed_label}
use Rattle.grammar.specs.Areas.{Written}
use Rattle.label_texts.specs.Packed.{name_texts, counts_of}
use Rattle.grammar.proofs.Decimal.{length-small}
use Rattle.grammar.proofs.Marks.{part_texts-zero, part_texts-some}
use Rattle.label_texts.proofs.Names.{length-name}
use Rattle.label_texts.proofs.Parts.{length_part}

-- Parts were written, or none and `tau` in their place.
pub parts-written : (s : Text) {before mid : Text} {k : ℕ} → Written s before mid k → (k ≡ 0 → ⊥) → Written (or_tau s) before mid k
parts-written [] u h = absurd (h u.size)
parts-written (b ∷ s) u h = u

pub tau-written : (s : Text) {before mid after : Text} {k r : ℕ} → Written s before mid k → k ≡ 0 → Written (ascii "tau") mid after r →
    Written (or_tau s) before after r
tau-written [] u e v = rw u.area at v
tau-written (b ∷ s) u e v = absurd (omega (arith, u.size))

pub parts_within : (s : Text) → length s ≤ length (or_tau s)
parts_within [] = zero-le
parts_within (b ∷ s) = le_refl (length (b ∷ s))

pub tau-length : (s : Text) → length s ≡ 0 → length (or_tau s) ≡ 3
tau-length [] e = refl
tau-length (b ∷ s) e = absurd (omega arith)

-- Each part has at most eight bytes of a name, a colon, two digits, and the point before it.
length-followed : (k : ℕ) (names : List ℕ) (w : ℕ) → length (followed dot (part_texts (name_texts names) (label_of k w))) ≤ 12 * k
unfolding part_texts label_of followed
length-followed zero names w = zero-le
length-followed (suc k) [] w = zero-le
length-followed (suc k) (n ∷ names) w =
    let word = name_of 8 n in
    let times = w % 32 in
    let rest = label_of k (w / 32) in
    let behind = followed dot (part_texts (name_texts names) rest) in
    elim (ℕ_discrete times 0) [
      | yes e ↦ rw (part_texts-zero word (name_texts names) times rest e) (omega (arith, length-followed k names (w / 32)))
      | no d ↦ rw (part_texts-some word (name_texts names) times rest d, length-append (part_text word times) behind, length_part word times)
          (omega (arith, length-followed k names (w / 32), length-name n, length-small times (omega arith)))
    ]

length-joined : (sign : ℕ) (ts : List Text) → length (joined_by sign ts) ≤ length (followed sign ts)
unfolding joined_by followed
length-joined sign [] = zero-le
length-joined sign (t ∷ ts) = omega arith

length-or-tau : (s : Text) → length s ≤ 288 → length (or_tau s) ≤ 288
length-or-tau [] h = omega arith
length-or-tau (b ∷ s) h = h

pub length_label : (names : List ℕ) (label : ℕ) → length (printed_label (name_texts names) (counts_of label)) ≤ 288
unfolding printed_label
length_label names label =
    let parts = part_texts (name_texts names) (counts_of label) in
    length-or-tau (joined_by dot parts) (omega (arith, length-joined dot parts, length-followed 24 names label))
