-- Any two results that meet the promise of the order's line are equal, and so are the words that are lent.
-- Assumes nothing.
use mathlib.Core.Path.{◌≡◌, sym, ap, ap₂, ◌∙◌}
use mathlib.Core.List.{List}
use Prim.Native.Nat.{ℕ}
use native.Mathlib.Omega.{arith}
use lib.ListN.{drop}
use Rattle.std.specs.Prelude.{Result, Ok, Err, OnOk, OnErr}
use Rattle.meaning.specs.Bytes.{Text}
use Rattle.meaning.specs.Descriptions as D
use Rattle.meaning.proofs.Alike.{alike}
use Rattle.areas.specs.Areas.{zeroed}
use Rattle.table.specs.declared.Order.{Order}
use Rattle.table.specs.Encoded.{order_for, order_words}
use Rattle.grammar.specs.Reading.{Walk}
use Rattle.lists.specs.Lists.{overlaid}
use Rattle.words.proofs.Uniqueness.{place-unique}
use Rattle.words.specs.declared.Taken.{Taken}
use Rattle.keyed.specs.declared.BadLine.{BadLine}
use Rattle.keyed.proofs.Uniqueness.{bad-unique}
use Rattle.orderlines.specs.Orders.{OrderWalks, OrderEnd, order_last}

module _ (text : Text) (line : ℕ) (due : Walk D.Order) (before after₁ after₂ : List ℕ) where
  walks-unique : (r s : Result (Taken Order) BadLine) → OrderWalks text line due before after₁ r → OrderWalks text line due before after₂ s
      → (r ≡ s) × OnOk r (after₁ ≡ after₂)
  walks-unique (Ok t) (Ok u) p q =
      let e = alike p.says q.says in
      let x : p.order ≡ q.order = cc in
      let d : drop t.bytes text ≡ drop u.bytes text = cc in (
        ap₂ (λ v n. Ok (record { value = v; bytes = n })) (p.kept ∙ ap order_for x ∙ sym q.kept)
            (place-unique text t.bytes u.bytes p.within q.within d),
        p.stored ∙ ap (λ o. overlaid (order_words o) before) x ∙ sym q.stored,
      )
  walks-unique (Ok t) (Err b) p q = let e = alike p.says q.says in let z : ◌≡◌ {A = ℕ} 0 1 = cc in absurd (omega arith)
  walks-unique (Err a) (Ok u) p q = let e = alike p.says q.says in let z : ◌≡◌ {A = ℕ} 0 1 = cc in absurd (omega arith)
  walks-unique (Err a) (Err b) p q = (ap Err (bad-unique a b (alike p.says q.says)), tt)

-- The words that are lent are settled by the order, and after a bad line.
words-unique : (r : Result (Taken Order) BadLine) (before after₁ after₂ : List ℕ) → OnOk r (after₁ ≡ after₂) → OnErr r (after₁ ≡ zeroed 64 before)
    → OnErr r (after₂ ≡ zeroed 64 before) → after₁ ≡ after₂
words-unique (Ok t) before after₁ after₂ w p q = w
words-unique (Err b) before after₁ after₂ w p q = p ∙ sym q

module _ {text : Text} {line : ℕ} {names before after₁ after₂ : List ℕ} {r s : Result (Taken Order) BadLine} where
  pub order-unique : OrderEnd text line names before after₁ r → OrderEnd text line names before after₂ s → (r ≡ s) × (after₁ ≡ after₂)
  order-unique p q =
      let u = walks-unique text line (order_last names line text) before after₁ after₂ r s p.walked.came q.walked.came in
      let z = rw (sym u.0) at q.cleared in
      (u.0, words-unique r before after₁ after₂ u.1 p.cleared z)
