-- What is promised of reading settles its result and all words of the three areas.
-- Assumes nothing.
use mathlib.Core.Path.{◌≡◌}
use mathlib.Core.List.{List}
use Prim.Native.Nat.{ℕ}
use Rattle.std.specs.Prelude.{Result}
use Rattle.meaning.specs.Bytes.{Text}
use Rattle.meaning.proofs.Alike.{alike}
use Rattle.reading.specs.Stored.{Stored}
use Rattle.table.specs.declared.Order.{Order}
use Rattle.reading.specs.declared.ReadError.{ReadError}

pub stored-once : {text : Text} {table lists listed table₁ lists₁ listed₁ table₂ lists₂ listed₂ : List ℕ} {r₁ r₂ : Result Order ReadError}
    → Stored text table lists listed table₁ lists₁ listed₁ r₁ → Stored text table lists listed table₂ lists₂ listed₂ r₂
    → (r₁ ≡ r₂) × (table₁ ≡ table₂) × (lists₁ ≡ lists₂) × (listed₁ ≡ listed₂)
stored-once s t =
    (alike s.result t.result, alike s.tabled t.tabled, alike s.listing t.listing, alike s.ordered t.ordered)
