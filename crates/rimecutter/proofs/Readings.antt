-- What reading leaves for the call, in areas of its own: a table of 140 words, an order's list of 64, and lists of any length.
-- Assumes nothing.
use Rattle.std.specs.Prelude.{Result, Ok, Err}
use mathlib.Core.Path.{◌≡◌, refl, sym, ap, subst, ◌∙◌}
use mathlib.Core.Bool.{Bool, true, false, ◌||◌}
use mathlib.Core.List.{List}
use Prim.Native.Nat.{ℕ, ◌*◌, ◌≤◌}
use native.Mathlib.Omega.{arith}
use lib.Dec.{leb, ltb}
use lib.ListN.{length}
use borrow.Author.Tests.{le-ltb}
use Rattle.meaning.specs.Bytes.{Text}
use Rattle.meaning.specs.Descriptions as D
use Rattle.meaning.specs.Legal.{Legal}
use Rattle.meaning.specs.Rounds.{pick}
use Rattle.meaning.specs.Answers.{Fault, form, name, range, amount}
use Rattle.grammar.specs.Reading.{Walk, reached, halted, Reading, read, overlong, bad_line, read_text}
use Rattle.faults.specs.CodedFaults.{fault_of, flaw_of, fault_for}
use Rattle.table.specs.declared.Order.{Order}
use Rattle.table.specs.Holding.{Holds, HoldsOrder}
use Rattle.heads.specs.Heads.{Heading, head_text}
use Rattle.reading.specs.Stored.{Coming, comes, crowded, unless_crowded, lines_in, read_in, read_for, Stored}
use Rattle.reading.specs.declared.ReadError.{ReadError}
use Rattle.reading.specs.declared.ReadError.TheVariants.{NoRoom, TooLong, Bad}
use Rattle.reading.proofs.Rooms.{read-in-full, read-holds}

-- A text that is not crowded comes to what it reads as.
uncrowded : (room : ℕ) (w : Walk Heading) {r x : Reading} → unless_crowded room w r ≡ comes x → r ≡ x
uncrowded room (halted f line) e = cc
uncrowded room (reached h line s) {r} {x} e = by (leb (64 * h.terms) room) e
  where
    by : (b : Bool) → pick b (comes r) crowded ≡ comes x → r ≡ x
    by true e = cc
    by false e = let z : ◌≡◌ {A = ℕ} 0 1 = cc in absurd (omega arith)

read_as : (text : Text) (table room listed : ℕ) {x : Reading} → 140 ≤ table → 64 ≤ listed → read_in text table room listed ≡ comes x → read_text text ≡ x
unfolding read_in lines_in read_text
read_as text table room listed {x} wide long e = by (ltb 8192 (length text)) refl (rw (le-ltb table 140 wide, le-ltb listed 64 long) at e)
  where
    by : (b : Bool) → ltb 8192 (length text) ≡ b → pick (b || false || false) (comes overlong) (lines_in room text) ≡ comes x → read_text text ≡ x
    by true q e = rw (q, read_text) (cc)
    by false q e = rw (q, read_text) (uncrowded room (head_text text) e)

-- What is left in the areas after a description.
pub record ReadAs (text : Text) (table lists listed : List ℕ) (order : Order) : Type 0 where
  pub given : D.Description
  pub wanted : D.Order
  pub reads : read_text text ≡ read given wanted
  pub legal : Legal given wanted
  pub holds : Holds given table lists
  pub ordered : HoldsOrder wanted order listed

-- Why a text was not read: for what it is, or for want of room.
abbrev pub Refused : Text → (room : ℕ) → ReadError → Type 0
Refused text room NoRoom = 6144 ≤ room → ⊥
Refused text room TooLong = read_text text ≡ overlong
Refused text room (Bad b) = read_text text ≡ bad_line (flaw_of b.flaw) b.line

pub fault-back : (f : Fault) → fault_of (fault_for f) ≡ f
fault-back form = refl
fault-back name = refl
fault-back range = refl
fault-back amount = refl

-- what is an error, and what is not
abbrev why_of : Result Order ReadError → ReadError
why_of (Ok order) = NoRoom
why_of (Err why) = why

module _ {text : Text} {table lists listed table' lists' listed' : List ℕ} {r : Result Order ReadError}
    (done : Stored text table lists listed table' lists' listed' r) (wide : length table ≡ 140) (long : length listed ≡ 64) where
  abbrev coming : Coming
  coming = read_in text (length table) (length lists) (length listed)

  came : {x : Reading} → coming ≡ comes x → read_text text ≡ x
  came q = read_as text (length table) (length lists) (length listed) (omega arith) (omega arith) q

  answered : {c : Coming} → coming ≡ c → r ≡ read_for c
  answered q = done.result ∙ ap read_for q

  pub fine-read : {order : Order} → r ≡ Ok order → ReadAs text table' lists' listed' order
  fine-read {order} e = by coming refl
    where
      by : (c : Coming) → coming ≡ c → ReadAs text table' lists' listed' order
      by (comes (read d o)) q =
          let left = read-holds (subst (Stored text table lists listed table' lists' listed') e done) q in
          record { given = d; wanted = o; reads = came q; legal = left.0; holds = left.1; ordered = left.2 }
      by (comes overlong) q = let h = answered q in let z : ◌≡◌ {A = ℕ} 0 1 = cc in absurd (omega arith)
      by (comes (bad_line f line)) q = let h = answered q in let z : ◌≡◌ {A = ℕ} 0 1 = cc in absurd (omega arith)
      by crowded q = let h = answered q in let z : ◌≡◌ {A = ℕ} 0 1 = cc in absurd (omega arith)

  pub refused-read : {why : ReadError} → r ≡ Err why → Refused text (length lists) why
  refused-read {why} e = by coming refl
    where
      the : {c : Coming} {w : ReadError} → coming ≡ c → read_for c ≡ Err w → w ≡ why
      the q k = ap why_of (sym k ∙ sym (answered q) ∙ e)

      by : (c : Coming) → coming ≡ c → Refused text (length lists) why
      by (comes (read d o)) q = let h = answered q in let z : ◌≡◌ {A = ℕ} 0 1 = cc in absurd (omega arith)
      by (comes overlong) q = subst (Refused text (length lists)) (the q refl) (came q)
      by (comes (bad_line f line)) q = subst (Refused text (length lists)) (the q refl) (rw (fault-back f.fault) (came q))
      by crowded q =
          subst (Refused text (length lists)) (the q refl) (λ roomy.
          let full = read-in-full text (length table) (length lists) (length listed) (omega arith) roomy (omega arith) in
          let z : ◌≡◌ {A = ℕ} 0 1 = cc in
          omega arith)
