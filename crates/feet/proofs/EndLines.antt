-- The lines after the terms as lines of the whole text: the bodies and the root, and the order after them.
-- Assumes nothing.
use mathlib.Core.Path.{◌≡◌, refl, sym, ap, ap₂, ◌∙◌}
use mathlib.Core.Bool.{Bool, true, false, ◌&&◌}
use mathlib.Core.List.{List, [], ◌∷◌, map}
use Prim.Native.Nat.{ℕ, zero, suc, ◌+◌, ◌≤◌}
use native.Mathlib.Omega.{arith}
use lib.Dec.{leb, ltb}
use lib.ListN.{length, drop, length-drop}
use borrow.Author.Tests.{le-leb, lt-ltb}
use Rattle.std.specs.Prelude.{Result, Ok, Err}
use Rattle.meaning.specs.Bytes.{Text, ascii}
use Rattle.meaning.specs.Descriptions as D
use Rattle.meaning.specs.Answers.{range}
use Rattle.areas.specs.Areas.{zeroed}
use Rattle.table.specs.declared.Order.{Order}
use Rattle.table.specs.Decoded.{name_of}
use Rattle.table.specs.Holding.{names_in}
use Rattle.faults.specs.CodedFaults.{flaw_of, flaw_for}
use Rattle.faults.specs.declared.Flaw.{Flaw}
use Rattle.faults.proofs.Uniqueness.{flaw-back}
use Rattle.grammar.specs.Reading.{take_number, take_body, take_order, Walk, reached, halted, walk, one_line, lines, Reading, read, bad_line}
use Rattle.grammar.specs.Reading as M
use Rattle.grammar.specs.Reading.{Whole, from_order, from_root, from_bodies, described}
use Rattle.orderlines.specs.Orders.{nothing_after, form_if, order_first, order_last, OrderEnd}
use Rattle.keyed.specs.Walks.{refusal}
use Rattle.words.specs.declared.Taken.{Taken}
use Rattle.keyed.specs.declared.BadLine.{BadLine}
use Rattle.sections.specs.Sections.{Section, Within}
use Rattle.sections.proofs.Joins.{walk-walk, ends-bad, ends_on}
use Rattle.sections.proofs.LaidLines.{within_same}
use Rattle.sections.proofs.Places.{names-few, names-after-foot}
use Rattle.feet.specs.Feet.{Footing, foot_root, foot_text, FootLeft, FootRead}
use Rattle.feet.specs.Ends.{EndRead}

-- The lines of bodies and the root are lines of the whole text.
abbrev with_root : List Text → List D.Term → Footing → D.Description
with_root words terms x = record { words = words; terms = terms; bodies = x.bodies; root = x.root }

module _ (words : List Text) (terms : List D.Term) where
  abbrev on_order : Footing → ℕ → Text → Walk Whole
  on_order x line s = from_order (with_root words terms x) line s

  root-join : (t : ℕ) (bodies : List ℕ) (line : ℕ) (s : Text) → walk (foot_root t bodies line s) on_order ≡ from_root words terms bodies t line s
  root-join t bodies line s =
      walk-walk (one_line (take_number (ascii "root=") (λ r. ltb r t) range) line s)
      (λ root line s. reached (record { bodies = bodies; root = root }) line s) on_order
      (λ root line s. from_order (with_root words terms (record { bodies = bodies; root = root })) line s) (λ root line s. refl)

  foot-joins : (e t line : ℕ) (s : Text)
      → walk (foot_text e t line s) (λ x line s. from_order (with_root words terms x) line s) ≡ from_bodies words terms e t line s
  foot-joins e t line s =
      walk-walk (lines (take_body t) e [] line s) (λ bodies line s. foot_root t bodies line s) on_order
      (λ bodies line s. from_root words terms bodies t line s) (root-join t)

-- The order's line as the last of the whole text.
abbrev end_of : D.Description → Walk D.Order → Reading
end_of d (reached o line s) = read d o
end_of d (halted f line) = bad_line f line

module _ (d : D.Description) (line : ℕ) (text : Text) (names : List ℕ) (n : map (name_of 8) names ≡ d.words) (few : length names ≤ 24) (low : line ≤ 200) where
  abbrev with_order : D.Order → ℕ → Text → Walk Whole
  with_order o line s = reached (record { given = d; order = o }) line s

  by-walk : (w : Walk D.Order) → end_of d (nothing_after w) ≡ described (walk w with_order)
  by-walk (reached o l []) = refl
  by-walk (reached o l (b ∷ s)) = refl
  by-walk (halted f l) = refl

  order-joins : end_of d (order_last names line text) ≡ described (from_order d line text)
  unfolding order_last
  order-joins =
      rw (le-leb (length names) 24 few, lt-ltb line 18446744073709551615 (omega arith))
      (by-walk (order_first names line text) ∙ ap (λ ws. described (walk (one_line (take_order ws) line text) with_order)) n)

  order-refused : {f : M.Flaw} {l : ℕ} → halted f l ≡ order_last names line text → bad_line f l ≡ described (from_order d line text)
  order-refused q = ap (end_of d) q ∙ order-joins

  order-read : {o : D.Order} {l : ℕ} {s : Text} → reached o l s ≡ order_last names line text → read d o ≡ described (from_order d line text)
  order-read q = ap (end_of d) q ∙ order-joins

-- nothing is left behind it
last-ends : {o : D.Order} {l : ℕ} {s : Text} (names : List ℕ) (line : ℕ) (text : Text) → reached o l s ≡ order_last names line text → s ≡ []
unfolding order_last
last-ends {o} {l} {s} names line text e = by_form (leb (length names) 24 && ltb line 18446744073709551615) (order_first names line text) e
  where
    by_form : (b : Bool) (w : Walk D.Order) → reached o l s ≡ form_if b line (nothing_after w) → s ≡ []
    by_form true (reached a m []) e = cc
    by_form true (reached a m (b ∷ t)) e = let z : ◌≡◌ {A = ℕ} 0 1 = cc in absurd (omega arith)
    by_form true (halted f m) e = let z : ◌≡◌ {A = ℕ} 0 1 = cc in absurd (omega arith)
    by_form false w e = let z : ◌≡◌ {A = ℕ} 0 1 = cc in absurd (omega arith)

-- What is returned of a bad line.
bad-order : (f : Flaw) {l : ℕ} → ◌≡◌ {A = Result (Taken Order) BadLine} (refusal f l) (refusal (flaw_for (flaw_of f)) l)
bad-order f {l} = ap (λ g. refusal g l) (sym (flaw-back f))

-- The bodies and the root, and the order after them.
zeroed-within : (n : ℕ) (area : List ℕ) → Within n area (zeroed n area)
unfolding zeroed
zeroed-within zero area = within_same 0 area
zeroed-within (suc n) [] = within_same (suc n) []
zeroed-within (suc n) (w ∷ ws) = let k = zeroed-within n ws in record { long = ap suc k.long; behind = k.behind }

pub foot-refused : {text : Text} {line equations terms : ℕ} {table table' : List ℕ} {p : Result ℕ BadLine} → FootRead text line equations terms table table' p
    → (listed : List ℕ) {b : BadLine} → p ≡ Err b → EndRead text line equations terms table listed table' listed (Err b)
foot-refused {text} {line} {equations} {terms} w listed {b} e = record {
  tabled = w.tabled;
  came = λ words ts s. rw (← due words ts) (record { answered = bad-order b.flaw; ordered = within_same 64 listed });
}
  where
    due : (words : List Text) (ts : List D.Term) → bad_line (flaw_of b.flaw) b.line ≡ described (from_bodies words ts equations terms line text)
    due words ts = ends-bad _ (rw e at w.came) ∙ ap described (foot-joins words ts equations terms line text)

module _ {text : Text} (line terms : ℕ) {equations : ℕ} {table table' : List ℕ} {took : ℕ} (tabled : Within 140 table table')
    (foot : Section text (foot_text equations terms line text) (λ f. suc (line + equations)) (FootLeft equations table table') took)
    (low : line + equations ≤ 199) {listed listed' : List ℕ} {last : Result (Taken Order) BadLine}
    (o : OrderEnd (drop took text) (line + equations + 1) (names_in table') listed listed' last) where
  -- the order's line is the last, after all of the description
  module _ {words : List Text} (s : map (name_of 8) (names_in table) ≡ words) (ts : List D.Term) where
    names-still : map (name_of 8) (names_in table') ≡ words
    names-still =
        ap (λ l. map (name_of 8) (names_in l)) foot.left.laid
        ∙ ap (map (name_of 8)) (names-after-foot foot.read.bodies foot.read.root table) ∙ s

    ends : described (from_order (with_root words ts foot.read) (line + equations + 1) (drop took text))
        ≡ described (from_bodies words ts equations terms line text)
    ends =
        let n : line + equations + 1 ≡ suc (line + equations) = omega arith in
        ap (λ m. described (from_order (with_root words ts foot.read) m (drop took text))) n
        ∙ ends_on _ foot.says ∙ ap described (foot-joins words ts equations terms line text)

    refused : {b : BadLine} → last ≡ Err b → bad_line (flaw_of b.flaw) b.line ≡ described (from_bodies words ts equations terms line text)
    refused g =
        order-refused (with_root words ts foot.read) (line + equations + 1) (drop took text) (names_in table') names-still (names-few table') (omega arith)
        (rw g at o.walked.came).says ∙ ends

    ordered : {order : D.Order} {l : ℕ} {rest : Text} → reached order l rest ≡ order_last (names_in table') (line + equations + 1) (drop took text)
        → read (with_root words ts foot.read) order ≡ described (from_bodies words ts equations terms line text)
    ordered q =
        order-read (with_root words ts foot.read) (line + equations + 1) (drop took text) (names_in table') names-still (names-few table') (omega arith) q
        ∙ ends

  last-refused : {b : BadLine} → last ≡ Err b → EndRead text line equations terms table listed table' listed' last
  last-refused {b} g = record {
    tabled = tabled;
    came = λ words ts s. rw (← refused s ts g) (record {
      answered = g ∙ bad-order b.flaw;
      ordered = rw (rw g at o.cleared) (zeroed-within 64 listed);
    });
  }

  last-read : {t : Taken Order} → last ≡ Ok t → EndRead text line equations terms table listed table' listed' last
  last-read {t} g =
      let k = rw g at o.walked.came in
      let all = last-ends (names_in table') (line + equations + 1) (drop took text) k.says in
      let n = sym (length-drop t.bytes (drop took text)) ∙ ap length all in
      let e : t.bytes ≡ length (drop took text) = omega (arith, k.within) in
      record {
        tabled = tabled;
        came = λ words ts s. rw (← ordered s ts k.says) (record {
          next = suc (line + equations);
          rest = drop took text;
          rooted = foot.says;
          answered = g ∙ ap₂ (λ x n. Ok (record { value = x; bytes = n })) k.kept e;
          worded = refl;
          termed = refl;
          bodied = foot.left.counted;
          tabled = foot.left.laid;
          ordered = k.stored;
        });
      }

  last-come : EndRead text line equations terms table listed table' listed' last
  last-come = by-result last refl
    where
      by-result : (r : Result (Taken Order) BadLine) → last ≡ r → EndRead text line equations terms table listed table' listed' last
      by-result (Ok t) e = last-read e
      by-result (Err b) e = last-refused e

-- The same of what the code lends.
module _ {text : Text} {line equations terms : ℕ} {table table' : List ℕ} {p : Result ℕ BadLine} (w : FootRead text line equations terms table table' p)
    {took : ℕ} (e : p ≡ Ok took) where
  foot : Section text (foot_text equations terms line text) (λ f. suc (line + equations)) (FootLeft equations table table') took
  foot = rw e at w.came

  pub foot-taken : took ≤ length text
  foot-taken = foot.within

  pub end_read : line + equations ≤ 199 → {rest : Text} {names listed listed' : List ℕ} {last : Result (Taken Order) BadLine}
      → rest ≡ drop took text → names ≡ names_in table'
      → OrderEnd rest (line + equations + 1) names listed listed' last → EndRead text line equations terms table listed table' listed' last
  end_read low t n o = last-come line terms w.tabled foot low (rw (t, n) at o)
