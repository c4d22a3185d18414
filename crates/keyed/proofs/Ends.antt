-- The last thing of a line, after its key: past the LF, or stuck where it does not stand.
-- Assumes nothing.
use mathlib.Core.Path.{◌≡◌, refl, sym, ap, ◌∙◌}
use mathlib.Core.Bool.{Bool, true, false}
use mathlib.Core.List.{◌++◌}
use Prim.Native.Nat.{ℕ, ◌+◌, ◌-◌, ◌≤◌}
use native.Mathlib.Omega.{arith}
use lib.ListN.{length, drop, length-drop, length-append}
use Rattle.std.specs.Prelude.{Ok, Err}
use Rattle.meaning.specs.Bytes.{Text}
use Rattle.grammar.specs.Text.{Past, past, onward, placed, lf, ended, starts, literal}
use Rattle.grammar.proofs.Onwards.{literal→}
use Rattle.words.specs.Steps.{Reading, step_place, Stands, Steps}
use Rattle.words.proofs.Rests.{sign-within}
use Rattle.words.proofs.Steps.{stops, goes, rest_at, rest-drop, went_on, stays_on, no_sign, past-sign, arrived, otherwise}
use Rattle.keyed.specs.Ends.{placed_after, past_end, ended_from}

-- a value with the LF after it
abbrev pub last-with : {A : Type 0} → A → Text → Past A
last-with a q = onward (ended q) (λ _ p. past a p)

module _ {A : Type 0} (f : ℕ → A) (text : Text) {due : Past A} where
  ends : (t : Bool) {v next : ℕ} → starts lf (drop next text) ≡ t → Stands text next (past (f v) (drop next text)) due
      → Steps f text (past_end t v next) (onward due last-with)
  ends true {v} {next} e s =
      let w = sign-within lf text next e in
      record { stands = goes last-with s (past-sign lf text next (λ _ p. past (f v) p) e (arrived (f v) (omega arith))) }
  ends false {v} {next} e s = record { stands = goes last-with s (no_sign lf text next (λ _ p. past (f v) p) e s.within) }

-- What the item after the key says.
abbrev keyed : {A : Type 0} → (Text → Past A) → (key text : Text) → Past A
keyed item key text = onward (literal key text) (λ _ q. onward (item q) last-with)

module _ {A : Type 0} (f : ℕ → A) (item : Text → Past A) (key text : Text) {at : ℕ} (h : Stands text at (past tt (drop at text)) (literal key text)) where
  last : (s : Reading ℕ) → Steps f (rest_at text at) s (item (rest_at text at)) → Steps f text (ended_from text at s) (keyed item key text)
  last (Ok t) s =
      record { stands = goes _ h (ends f text (starts lf (drop (at + t.bytes) text)) refl (went_on (λ _. f) item text at h.within s refl)).stands }
  last (Err p) s = record { stands = goes _ h (stops _ (stays_on (λ _. f) item text at h.within s refl)) }

-- A step over an item, with the place where that begins.
at_place : {A : Type 0} (f : ℕ → A) (item : Text → Past A) (text : Text) {from : ℕ} → from ≡ length text → (s : Reading ℕ) → Steps f text s (item text)
    → Steps (λ v. record { it = f v; from = from }) text s (placed item text)
at_place f item text e (Ok t) s =
    record { stands = otherwise (goes _ s.stands (arrived _ s.stands.within)) (ap (λ from. record { it = f t.value; from = from }) e) }
at_place f item text e (Err p) s = record { stands = stops _ s.stands }

-- It begins behind the key.
pub item-last : {A : Type 0} (f : ℕ → A) (item : Text → Past A) (key text : Text) {at : ℕ} → Stands text at (past tt (drop at text)) (literal key text)
    → {s r : Reading ℕ} → Steps f (rest_at text at) s (item (rest_at text at)) → r ≡ ended_from text at s
    → Steps (λ v. placed_after (length key) text (f v)) text r (keyed (placed item) key text)
item-last f item key text {at} h {s} t e =
    let k : text ≡ key ++ drop at text = (literal→ key text).holds tt (drop at text) (sym h.says) in
    let l = simp length-append at (ap length k) in
    let b : length text - length key ≡ length (rest_at text at) = rw (rest-drop text at h.within) (omega arith) in
    rw e (last (λ v. placed_after (length key) text (f v)) (placed item) key text h s (at_place f item (rest_at text at) b s t))

-- The place of a step of the rest lies in the text.
pub place-fits : {A : Type 0} {f : ℕ → A} (text : Text) (at : ℕ) {r : Reading ℕ} {due : Past A} → at ≤ length text
    → Steps f (rest_at text at) r due → at + step_place r ≤ length text
place-fits text at h s = omega (arith, s.stands.within, length_rest)
  where
    length_rest : length (rest_at text at) ≡ length text - at
    length_rest = ap length (rest-drop text at h) ∙ length-drop at text
