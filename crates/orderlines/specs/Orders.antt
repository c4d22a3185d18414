-- The order's line, which is the last of its text.
-- Assumes nothing.
use Rattle.std.specs.Prelude.{◌≡◌, Bool, true, false, ◌&&◌, List, [], ◌∷◌, map, ℕ, suc, ◌≤◌, leb, ltb, length, drop, Option, Result, Ok, Err, OnErr}
use Rattle.meaning.specs.Bytes.{Text}
use Rattle.meaning.specs.Descriptions as D
use Rattle.areas.specs.Areas.{zeroed}
use Rattle.table.specs.declared.Order.{Order}
use Rattle.table.specs.Decoded.{name_of}
use Rattle.table.specs.Encoded.{order_words, order_for}
use Rattle.grammar.specs.Text.{Past, past, stuck, onward, ended}
use Rattle.grammar.specs.Forms.{OrderLine, only, label_list}
use Rattle.grammar.specs.Faults.{fine, order_said, order_fault}
use Rattle.grammar.specs.Reading.{Flaw, Walk, reached, halted, at_first, one_line, take_order}
use Rattle.faults.specs.CodedFaults.{found_of, flaw_of}
use Rattle.faults.specs.declared.FaultAt.{FaultAt}
use Rattle.words.specs.Steps.{Reading, Stands}
use Rattle.lists.specs.Lists.{overlaid}
use Rattle.words.specs.declared.Taken.{Taken}
use Rattle.keyed.specs.declared.BadLine.{BadLine}
use Rattle.orderlines.specs.declared.OrderSaid.{OrderSaid}

-- LABELS, and the end of the line
abbrev pub only_these : Text → Past OrderLine
only_these s = onward (label_list s) (λ ls q. onward (ended q) (λ _ p. past (only ls) p))

-- The order, the fault of its labels, and their words over the start of those that are lent where there is none.
pub record OrderTaken (words : List Text) (text : Text) (due : Past OrderLine) (before after : List ℕ)
    (x : Order) (f : Option FaultAt) (took : ℕ) : Type 0 where
  pub line : OrderLine
  pub says : past line (drop took text) ≡ due
  pub within : took ≤ length text
  pub order : x ≡ order_for (order_said words line)
  pub faults : found_of f ≡ order_fault words line
  pub stored : order_fault words line ≡ fine → after ≡ overlaid (order_words (order_said words line)) before

abbrev pub OrderRead : List Text → Text → Past OrderLine → List ℕ → List ℕ → Reading OrderSaid → Type 0
OrderRead words text due before after (Ok t) = OrderTaken words text due before after t.value.order t.value.fault t.bytes
OrderRead words text due before after (Err p) = Stands text p.after (stuck (drop p.after text)) due

-- Bytes after the last line are a fault of the line that they begin.
abbrev pub nothing_after : {A : Type 0} → Walk A → Walk A
nothing_after (reached a line []) = reached a line []
nothing_after (reached a line (b ∷ s)) = halted at_first line
nothing_after (halted f line) = halted f line

-- The order's line as a text's first, and as its only one. Over twenty-four names, and a line after which no line has a number, are a fault
-- of form at the line's first byte.
abbrev pub order_first : List ℕ → ℕ → Text → Walk D.Order
order_first names line text = one_line (take_order (map (name_of 8) names)) line text

abbrev pub form_if : {A : Type 0} → Bool → ℕ → Walk A → Walk A
form_if true line w = w
form_if false line w = halted at_first line

unfoldable pub order_last : List ℕ → ℕ → Text → Walk D.Order
order_last names line text = form_if (leb (length names) 24 && ltb line 18446744073709551615) line (nothing_after (order_first names line text))

-- The order, its labels over the start of the words that are lent.
pub record OrderTo (text : Text) (line : ℕ) (due : Walk D.Order) (before after : List ℕ) (x : Order) (took : ℕ) : Type 0 where
  pub order : D.Order
  pub says : reached order (suc line) (drop took text) ≡ due
  pub within : took ≤ length text
  pub kept : x ≡ order_for order
  pub stored : after ≡ overlaid (order_words order) before

-- A bad line is its own, or that which bytes after it begin.
pub record OrderBad (line : ℕ) (due : Walk D.Order) (f : Flaw) (l : ℕ) : Type 0 where
  pub says : halted f l ≡ due
  pub low : l ≤ suc line

abbrev pub OrderWalks : Text → ℕ → Walk D.Order → List ℕ → List ℕ → Result (Taken Order) BadLine → Type 0
OrderWalks text line due before after (Ok t) = OrderTo text line due before after t.value t.bytes
OrderWalks text line due before after (Err b) = OrderBad line due (flaw_of b.flaw) b.line

pub record OrderWalked (text : Text) (line : ℕ) (due : Walk D.Order) (before after : List ℕ) (r : Result (Taken Order) BadLine) : Type 0 where
  pub came : OrderWalks text line due before after r

-- All words that are lent: after a bad line the first 64 are 0, and the others are as they were.
pub record OrderEnd (text : Text) (line : ℕ) (names before after : List ℕ) (r : Result (Taken Order) BadLine) : Type 0 where
  pub walked : OrderWalked text line (order_last names line text) before after r
  pub cleared : OnErr r (after ≡ zeroed 64 before)
