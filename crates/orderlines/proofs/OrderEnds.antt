-- The order's line as the only one of its text: by where its line ends, and by what is left in the words that are lent.
-- Assumes nothing.
use mathlib.Core.Path.{◌≡◌, refl, sym, ap, subst, ◌∙◌}
use mathlib.Core.Bool.{Bool, true, false, ◌&&◌}
use mathlib.Core.List.{List, [], ◌∷◌, ◌++◌, map}
use Prim.Native.Nat.{ℕ, zero, suc, ◌+◌, ◌≤◌, ◌<◌, min}
use native.Mathlib.Omega.{arith}
use native.Mathlib.Numerals.{add-one}
use lib.Dec.{leb, ltb}
use lib.ListN.{length, take, drop, length-map, drop_of_length-le, take-append-drop}
use borrow.Author.Tests.{lt-ltb, le-ltb, le-leb, lt-leb}
use Rattle.std.specs.Prelude.{Result, Ok, Err, OnErr, is_err}
use Rattle.meaning.specs.Bytes.{Text}
use Rattle.meaning.specs.Labels as L
use Rattle.meaning.specs.Descriptions as D
use Rattle.areas.specs.Areas.{zeroed}
use Rattle.areas.proofs.Held.{length-in_words}
use Rattle.table.specs.declared.Order.{Order}
use Rattle.table.specs.Decoded.{name_of}
use Rattle.table.specs.Encoded.{filled, order_words}
use Rattle.table.proofs.Fillings.{zeroed-filled}
use Rattle.grammar.specs.Text.{Past, past, stuck}
use Rattle.grammar.specs.Forms.{OrderLine, all, only, order_line}
use Rattle.grammar.specs.Faults.{Found, fine, fault, label_said, order_said, order_fault}
use Rattle.grammar.specs.Reading as M
use Rattle.grammar.specs.Reading.{taken, faulty, taken_unless, formed, take_order, Walk, reached, halted, at_first, after_line}
use Rattle.faults.specs.CodedFaults.{flaw_of}
use Rattle.faults.specs.declared.Flaw.{Flaw}
use Rattle.words.proofs.Rests.{rest-cons}
use Rattle.keyed.specs.Walks.{refusal}
use Rattle.lists.proofs.Contents.{labels-few}
use Rattle.lists.specs.Lists.{overlaid}
use Rattle.orderlines.specs.Orders.{nothing_after, order_first, form_if, order_last, OrderWalks, OrderWalked, OrderEnd}
use Rattle.words.specs.declared.Taken.{Taken}
use Rattle.keyed.specs.declared.BadLine.{BadLine}

module _ {text : Text} {line : ℕ} {due : Walk D.Order} {before after : List ℕ} {f : Flaw} {l : ℕ} where
  pub refused-walked : halted (flaw_of f) l ≡ due → l ≤ suc line → OrderWalked text line due before after (refusal f l)
  refused-walked q h = record { came = record { says = q; low = h } }

  pub refused-first : flaw_of f ≡ at_first → halted at_first l ≡ due → l ≤ suc line → OrderWalked text line due before after (refusal f l)
  refused-first g q h = refused-walked (ap (λ w. halted w l) g ∙ q) h

-- The line as the text's only one, by its number and the names.
module _ (names : List ℕ) (line : ℕ) (text : Text) where
  pub names-over : 24 < length names → halted at_first line ≡ order_last names line text
  unfolding order_last
  names-over h = rw (lt-leb (length names) 24 h)

  module _ (few : length names ≤ 24) where
    pub line-over : 18446744073709551615 ≤ line → halted at_first line ≡ order_last names line text
    unfolding order_last
    line-over h = rw (le-leb (length names) 24 few, le-ltb line 18446744073709551615 h)

    pub order-there : line < 18446744073709551615 → nothing_after (order_first names line text) ≡ order_last names line text
    unfolding order_last
    order-there h = rw (le-leb (length names) 24 few, lt-ltb line 18446744073709551615 h)

module _ {text : Text} {line : ℕ} {first last : Walk D.Order} (there : nothing_after first ≡ last) {before after : List ℕ}
    {r : Result (Taken Order) BadLine} (w : OrderWalked text line first before after r) where
  pub order-bad : {b : BadLine} → r ≡ Err b → OrderWalked text line last before after (Err b)
  order-bad e = let k = rw e at w.came in record { came = record { says = ap nothing_after k.says ∙ there; low = k.low } }

  module _ {t : Taken Order} (e : r ≡ Ok t) where
    pub order-short : t.bytes < length text → halted at_first (line + 1) ≡ last
    order-short h =
        let k = rw e at w.came in
        let s = rw (rest-cons text t.bytes h) at (ap nothing_after k.says) in
        rw add-one (s ∙ there)

    pub order-whole : length text ≤ t.bytes → OrderWalked text line last before after (Ok t)
    order-whole h =
        let k = rw e at w.came in
        let s = rw (drop_of_length-le text h) at (ap nothing_after k.says) in
        record {
          came = record {
            order = k.order;
            says = rw (drop_of_length-le text h) (s ∙ there);
            within = k.within;
            kept = k.kept;
            stored = k.stored;
          };
        }

-- The words that are lent, where these are no more than a list has: as the line left them, or 0.
module _ {text : Text} {line : ℕ} {names before left : List ℕ} {r : Result (Taken Order) BadLine}
    (w : OrderWalked text line (order_last names line text) before left r) where
  pub end_kept : is_err r ≡ false → OrderEnd text line names before left r
  end_kept e = record { walked = w; cleared = none-bad r e }
    where
      none-bad : (r : Result (Taken Order) BadLine) → is_err r ≡ false → OnErr r (left ≡ zeroed 64 before)
      none-bad (Ok t) e = tt
      none-bad (Err b) e = let z : ◌≡◌ {A = ℕ} 0 1 = cc in absurd (omega arith)

  pub end-cleared : {after : List ℕ} → length before ≤ 64 → length left ≡ length before → after ≡ zeroed 64 left → is_err r ≡ true
      → OrderEnd text line names before after r
  end-cleared {after} h s z e = record { walked = record { came = bad r e w.came }; cleared = on-bad r }
    where
      zeros : after ≡ zeroed 64 before
      zeros = z ∙ zeroed-filled 64 left (omega arith) ∙ ap (λ n. filled n 0 []) s ∙ sym (zeroed-filled 64 before h)

      bad : (r : Result (Taken Order) BadLine) → is_err r ≡ true → OrderWalks text line (order_last names line text) before left r
          → OrderWalks text line (order_last names line text) before after r
      bad (Ok t) e k = let z : ◌≡◌ {A = ℕ} 0 1 = cc in absurd (omega arith)
      bad (Err b) e k = k

      on-bad : (r : Result (Taken Order) BadLine) → OnErr r (after ≡ zeroed 64 before)
      on-bad (Ok t) = tt
      on-bad (Err b) = zeros

-- An order has at most 64 words: those of 32 labels.
abbrev FewTaken : M.Taken D.Order → Type 0
FewTaken (taken o rest) = length (order_words o) ≤ 64
FewTaken (faulty f from) = Unit {0}

abbrev FewReached : Walk D.Order → Type 0
FewReached (reached o line rest) = length (order_words o) ≤ 64
FewReached (halted f line) = Unit {0}

few-said : (words : List Text) (l : OrderLine) → order_fault words l ≡ fine → length (order_words (order_said words l)) ≤ 64
unfolding order_fault
few-said words all e = omega arith
few-said words (only ls) e =
    let said = map (λ l. label_said words l.it) ls in
    omega (arith, labels-few words ls e, length-in_words (map L.number said), length-map said L.number, length-map ls (λ l. label_said words l.it))

few-unless : (words : List Text) (l : OrderLine) (rest : Text) (f : Found) → order_fault words l ≡ f → FewTaken (taken_unless f (order_said words l) rest)
few-unless words l rest fine e = few-said words l e
few-unless words l rest (fault x from) e = tt

few-formed : (words : List Text) (d : Past OrderLine) → FewTaken (formed d (λ l. taken_unless (order_fault words l) (order_said words l)))
few-formed words (past l rest) = few-unless words l rest (order_fault words l) refl
few-formed words (stuck rest) = tt

few-taken : (words : List Text) (text : Text) → FewTaken (take_order words text)
unfolding take_order
few-taken words text = few-formed words (order_line text)

few-after : (line : ℕ) (text : Text) (t : M.Taken D.Order) → FewTaken t → FewReached (nothing_after (after_line line text t))
few-after line text (taken o []) h = h
few-after line text (taken o (b ∷ rest)) h = tt
few-after line text (faulty f from) h = tt

few-last : (names : List ℕ) (line : ℕ) (text : Text) → FewReached (order_last names line text)
unfolding order_last
few-last names line text =
    let words = map (name_of 8) names in
    by-test (leb (length names) 24 && ltb line 18446744073709551615) (nothing_after (order_first names line text))
    (few-after line text (take_order words text) (few-taken words text))
  where
    by-test : (t : Bool) (w : Walk D.Order) → FewReached w → FewReached (form_if t line w)
    by-test true w h = h
    by-test false w h = tt

-- No more words are lent on than a list has, and the others stay: so many that the words that are laid end among them, or reach the end.
over-front : (n : ℕ) (ws before : List ℕ) → min (length before) (length ws) ≤ n → overlaid ws (take n before) ++ drop n before ≡ overlaid ws before
unfolding overlaid
over-front n [] before h = take-append-drop n before
over-front zero (w ∷ ws) [] h = refl
over-front zero (w ∷ ws) (x ∷ before) h = absurd (omega arith)
over-front (suc n) (w ∷ ws) [] h = refl
over-front (suc n) (w ∷ ws) (x ∷ before) h = ap (λ l. w ∷ l) (over-front n ws before (omega arith))

zero-front : (n m : ℕ) (ws : List ℕ) → min (length ws) m ≤ n → zeroed m (take n ws) ++ drop n ws ≡ zeroed m ws
unfolding zeroed
zero-front n zero ws h = take-append-drop n ws
zero-front zero (suc m) [] h = refl
zero-front zero (suc m) (w ∷ ws) h = absurd (omega arith)
zero-front (suc n) (suc m) [] h = refl
zero-front (suc n) (suc m) (w ∷ ws) h = ap (λ l. 0 ∷ l) (zero-front n m ws (omega arith))

module _ (text : Text) (line : ℕ) (names before front : List ℕ) (n : ℕ) (far : n ≡ min (length before) 64) where
  abbrev whole : List ℕ
  whole = front ++ drop n before

  walks-front : (r : Result (Taken Order) BadLine) → OrderWalks text line (order_last names line text) (take n before) front r
      → OrderWalks text line (order_last names line text) before whole r
  walks-front (Ok t) w =
      let few = subst FewReached (sym w.says) (few-last names line text) in
      record {
        order = w.order;
        says = w.says;
        within = w.within;
        kept = w.kept;
        stored = ap (λ l. l ++ drop n before) w.stored ∙ over-front n (order_words w.order) before (omega arith);
      }
  walks-front (Err b) w = w

  zero-whole : (r : Result (Taken Order) BadLine) → OnErr r (front ≡ zeroed 64 (take n before)) → OnErr r (whole ≡ zeroed 64 before)
  zero-whole (Ok t) z = tt
  zero-whole (Err b) z = ap (λ l. l ++ drop n before) z ∙ zero-front n 64 before (omega arith)

  pub end-front : (r : Result (Taken Order) BadLine) → OrderEnd text line names (take n before) front r → OrderEnd text line names before whole r
  end-front r e = record { walked = record { came = walks-front r e.walked.came }; cleared = zero-whole r e.cleared }
