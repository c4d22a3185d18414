-- With few enough names what follows a kind's word is read, with more nothing is.
-- Assumes nothing.
use mathlib.Core.Path.{◌≡◌, refl}
use mathlib.Core.List.{List}
use Prim.Native.Nat.{ℕ, ◌≤◌, ◌<◌}
use native.Mathlib.Omega.{arith}
use lib.ListN.{length}
use borrow.Author.Tests.{le-leb, lt-leb, lt-ltb, le-ltb}
use Rattle.meaning.specs.Bytes.{Text}
use Rattle.grammar.specs.Text.{Past, stuck}
use Rattle.grammar.specs.Forms.{Line, of_list}
use Rattle.words.specs.Steps.{Stands}
use Rattle.lists.specs.Entries.{with_few}
use Rattle.tails.specs.Plains.{plain_tail}
use Rattle.tails.specs.Wraps.{wrap_of, contents, wrap_listed}
use Rattle.tails.specs.Tails.{tail_of}

module _ (names : List ℕ) where
  pub many-names : (due : Past Line) (s : Text) → 24 < length names → Stands s 0 (stuck s) (with_few names due s)
  many-names due s h = rw (lt-leb (length names) 24 h) (record { says = refl; within = omega arith })

  module _ (few : length names ≤ 24) where
    pub room : (due : Past Line) (s : Text) → due ≡ with_few names due s
    room due s = rw (le-leb (length names) 24 few)

    pub plain-room : (k : ℕ) (s : Text) → k < 12 → plain_tail k s ≡ with_few names (tail_of k s) s
    plain-room k s h = rw (le-leb (length names) 24 few, lt-ltb k 12 h)

    pub wrap-room : (k : ℕ) (s : Text) → 12 ≤ k → of_list (contents (wrap_of k)) (wrap_listed (wrap_of k)) s ≡ with_few names (tail_of k s) s
    wrap-room k s h = rw (le-leb (length names) 24 few, le-ltb k 12 h)
