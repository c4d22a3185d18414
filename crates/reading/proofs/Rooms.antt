-- Room for the lists: where there is enough for every text none is crowded, and a text that is read has room for its own.
-- Assumes nothing.
use mathlib.Core.Path.{◌≡◌, refl, sym, ap, ◌∙◌}
use mathlib.Core.Bool.{Bool, true, false, ◌||◌}
use mathlib.Core.List.{List, [], ◌∷◌, ◌++◌}
use Prim.Native.Nat.{ℕ, zero, suc, ◌+◌, ◌*◌, ◌≤◌}
use native.Mathlib.Omega.{arith}
use lib.Dec.{leb, ltb}
use lib.ListN.{length, length-append}
use borrow.Author.Tests.{leb-true, le-leb, le-ltb}
use Rattle.std.specs.Prelude.{Ok}
use Rattle.std.proofs.lemmas.Result.{IfOk-at_ok}
use Rattle.meaning.specs.Bytes.{Text, ascii}
use Rattle.meaning.specs.Descriptions as D
use Rattle.meaning.specs.Legal.{Legal}
use Rattle.meaning.specs.Rounds.{pick}
use Rattle.meaning.specs.Answers.{form, range}
use Rattle.meaning.proofs.Tests.{and-true→, or-false→}
use Rattle.table.specs.Encoded.{order_words}
use Rattle.table.specs.Holding.{Holds, HoldsOrder}
use Rattle.lists.specs.Lists.{overlaid}
use Rattle.grammar.specs.Text.{Past, past, stuck, Placed}
use Rattle.grammar.specs.Forms.{Line, count_line, term_line}
use Rattle.grammar.specs.Faults.{Found, fine, fault, term_said, term_fault}
use Rattle.grammar.specs.Reading.{taken_if, taken_unless, formed, take_number, names_in_range, equations_in_range, terms_in_range}
use Rattle.grammar.specs.Reading.{take_name, take_term, take_body, take_order, Walk, reached, halted, walk, after_line, one_line, lines, read, overlong}
use Rattle.grammar.specs.Reading.{Whole, from_order, from_root, from_bodies, from_terms, whole_text, described, read_text}
use Rattle.grammar.proofs.Acceptance.{accepted→}
use Rattle.sections.specs.Laying.{table_after, lists_over}
use Rattle.sections.proofs.Joins.{ends-bad, ends_on}
use Rattle.heads.specs.Heads.{Heading, head_terms, head_counts, head_names, head_text}
use Rattle.reading.specs.Stored.{comes, crowded, unless_crowded, lines_in, too_much, read_in, read_for, table_for, lists_for, listed_for, Stored}
use Rattle.table.specs.declared.Order.{Order}
use Rattle.reading.proofs.Holdings.{table-holds, order-held}
use Rattle.reading.proofs.Wholes.{on_terms, head-joins}
use Rattle.reading.proofs.Stores.{rooms}

-- What holds of whatever a walk reaches.
module _ {A : Type 0} (P : A → Type 0) where
  abbrev Ends : Walk A → Type 0
  Ends (reached a line s) = P a
  Ends (halted f line) = Unit {0}

module _ {A B : Type 0} (P : B → Type 0) where
  ends-onto : (Q : A → Type 0) (w : Walk A) (k : A → ℕ → Text → Walk B) → Ends Q w → ((a : A) → Q a → (line : ℕ) (s : Text) → Ends P (k a line s))
      → Ends P (walk w k)
  ends-onto Q (reached a line s) k q f = f a q line s
  ends-onto Q (halted x line) k q f = tt

  ends-walk : (w : Walk A) (k : A → ℕ → Text → Walk B) → ((a : A) (line : ℕ) (s : Text) → Ends P (k a line s)) → Ends P (walk w k)
  ends-walk (reached a line s) k f = f a line s
  ends-walk (halted x line) k f = tt

-- No more terms than there may be.
abbrev Few : Heading → Type 0
Few h = h.terms ≤ 96

module _ (words : List Text) (e : ℕ) where
  abbrev counted : ℕ → ℕ → Text → Walk Heading
  counted t line s = reached (record { words = words; equations = e; terms = t }) line s

  few-terms : (line : ℕ) (s : Text) → Ends Few (head_terms words e line s)
  unfolding take_number
  few-terms line s = by_form (count_line (ascii "terms=") s)
    where
      by-test : (t : Bool) (n : Placed ℕ) (r : Text) → terms_in_range n.it ≡ t
          → Ends Few (walk (after_line line s (taken_if t form n.from n.it r)) counted)
      by-test true n r q = leb-true n.it 96 (and-true→ (leb 1 n.it) (leb n.it 96) q).1
      by-test false n r q = tt

      by_form : (d : Past (Placed ℕ)) → Ends Few (walk (after_line line s (formed d (λ n. taken_if (terms_in_range n.it) form n.from n.it))) counted)
      by_form (past n r) = by-test (terms_in_range n.it) n r refl
      by_form (stuck r) = tt

few_head : (text : Text) → Ends Few (head_text text)
unfolding head_text
few_head text =
    ends-walk Few (one_line (take_number (ascii "names=") names_in_range form) 1 text) (λ n line s. head_names n line s)
    (λ n line s. ends-walk Few (lines take_name n [] line s) (λ words line s. head_counts words line s)
    (λ words line s. ends-walk Few (one_line (take_number (ascii "equations=") equations_in_range form) line s) (λ e line s. head_terms words e line s)
    (few-terms words)))

pub never-crowded : (text : Text) (room : ℕ) → 6144 ≤ room → lines_in room text ≡ comes (described (whole_text text))
unfolding lines_in
never-crowded text room h = by-head (head_text text) (few_head text)
  where
    by-head : (w : Walk Heading) → Ends Few w → unless_crowded room w (described (whole_text text)) ≡ comes (described (whole_text text))
    by-head (reached x line s) f = rw (le-leb (64 * x.terms) room (omega arith))
    by-head (halted x line) f = refl

pub read-in-full : (text : Text) (table lists listed : ℕ) → 140 ≤ table → 6144 ≤ lists → 64 ≤ listed → read_in text table lists listed ≡ comes (read_text text)
unfolding read_in read_text
read-in-full text table lists listed h k l = rw (le-ltb table 140 h, le-ltb listed 64 l, never-crowded text lists k) (by_length (ltb 8192 (length text)))
  where
    by_length : (b : Bool) → pick (b || false || false) (comes overlong) (comes (described (whole_text text)))
        ≡ comes (elim b [ true ↦ overlong | false ↦ described (whole_text text) ])
    by_length true = refl
    by_length false = refl

-- As many terms are read as the lines before them say, and so a text that is read has room for its lists.
module _ (words : List Text) (e : ℕ) where
  -- one line adds one term
  line-counted : (ts : List D.Term) (line : ℕ) (s : Text) → Ends (λ us. length us ≡ suc (length ts)) (one_line (take_term words e ts) line s)
  unfolding take_term
  line-counted ts line s = by_form (term_line s)
    where
      by-fault : (f : Found) (t : D.Term) (r : Text)
          → Ends (λ us. length us ≡ suc (length ts)) (after_line line s (taken_unless f (ts ++ (t ∷ [])) r))
      by-fault fine t r = simp length-append (omega arith)
      by-fault (fault x from) t r = tt

      by_form : (d : Past Line) → Ends (λ us. length us ≡ suc (length ts))
          (after_line line s (formed d (λ l. taken_unless (term_fault words e (length ts) l) (ts ++ (term_said words l ∷ [])))))
      by_form (past l r) = by-fault (term_fault words e (length ts) l) (term_said words l) r
      by_form (stuck r) = tt

  lines-counted : (n m : ℕ) (ts : List D.Term) (line : ℕ) (s : Text) → length ts + n ≡ m → Ends (λ us. length us ≡ m) (lines (take_term words e) n ts line s)
  unfolding lines
  lines-counted zero m ts line s q = omega arith
  lines-counted (suc n) m ts line s q =
      ends-onto (λ us. length us ≡ m) (λ us. length us ≡ suc (length ts)) (one_line (take_term words e ts) line s) (lines (take_term words e) n)
      (line-counted ts line s) (λ us k line s. lines-counted n m us line s (omega arith))

module _ (t : ℕ) where
  abbrev Termed : Whole → Type 0
  Termed w = length w.given.terms ≡ t

  termed-bodies : (words : List Text) (ts : List D.Term) (e line : ℕ) (s : Text) → length ts ≡ t → Ends Termed (from_bodies words ts e t line s)
  termed-bodies words ts e line s q =
      ends-walk Termed (lines (take_body t) e [] line s) (λ bodies line s. from_root words ts bodies t line s)
      (λ bodies line s. ends-walk Termed (one_line (take_number (ascii "root=") (λ r. ltb r t) range) line s)
      (λ root line s. from_order (record { words = words; terms = ts; bodies = bodies; root = root }) line s)
      (λ root line s. ends-walk Termed (one_line (take_order words) line s)
      (λ o line s. reached (record { given = record { words = words; terms = ts; bodies = bodies; root = root }; order = o }) line s) (λ o line s. q)))

  termed-all : (words : List Text) (e line : ℕ) (s : Text) → Ends Termed (from_terms words e t line s)
  termed-all words e line s =
      ends-onto Termed (λ us. length us ≡ t) (lines (take_term words e) t [] line s) (λ ts line s. from_bodies words ts e t line s)
      (lines-counted words e t t [] line s (omega arith)) (λ ts q line s. termed-bodies words ts e line s q)

  termed-read : (w : Walk Whole) → Ends Termed w → {d : D.Description} {o : D.Order} → described w ≡ read d o → D.term_count d ≡ t
  termed-read (reached x line []) q {d} e = let k : x.given ≡ d = cc in ap D.term_count (sym k) ∙ q
  termed-read (reached x line (b ∷ s)) q e = let z : ◌≡◌ {A = ℕ} 0 1 = cc in absurd (omega arith)
  termed-read (halted f line) q e = let z : ◌≡◌ {A = ℕ} 0 1 = cc in absurd (omega arith)

pub lists-fit : (text : Text) (room : ℕ) {d : D.Description} {o : D.Order} → lines_in room text ≡ comes (read d o)
    → (described (whole_text text) ≡ read d o) × (64 * D.term_count d ≤ room)
unfolding lines_in
lists-fit text room {d} {o} e = by-head (head_text text) refl e
  where
    by-room : (b : Bool) (h : Heading) (line : ℕ) (s : Text) → reached h line s ≡ head_text text → leb (64 * h.terms) room ≡ b
        → pick b (comes (described (whole_text text))) crowded ≡ comes (read d o) → (described (whole_text text) ≡ read d o) × (64 * D.term_count d ≤ room)
    by-room true h line s q l e =
        let k : described (whole_text text) ≡ read d o = cc in
        let w = from_terms h.words h.equations h.terms line s in
        let all = termed-all h.terms h.words h.equations line s in
        let n = termed-read h.terms w all (ends_on on_terms q ∙ ap described (head-joins text) ∙ k) in
        (k, omega (arith, leb-true (64 * h.terms) room l))
    by-room false h line s q l e = let z : ◌≡◌ {A = ℕ} 0 1 = cc in absurd (omega arith)

    by-head : (w : Walk Heading) → w ≡ head_text text → unless_crowded room w (described (whole_text text)) ≡ comes (read d o)
        → (described (whole_text text) ≡ read d o) × (64 * D.term_count d ≤ room)
    by-head (reached h line s) q e = by-room (leb (64 * h.terms) room) h line s q refl e
    by-head (halted f line) q e =
        let k : described (whole_text text) ≡ read d o = cc in
        let m = ends-bad on_terms q ∙ ap described (head-joins text) ∙ k in
        let z : ◌≡◌ {A = ℕ} 0 1 = cc in
        absurd (omega arith)

-- What is left of a text that is read holds its description and order.
pub read-holds : {text : Text} {table lists listed table' lists' listed' : List ℕ} {x : Order} {d : D.Description} {o : D.Order}
    → Stored text table lists listed table' lists' listed' (Ok x) → read_in text (length table) (length lists) (length listed) ≡ comes (read d o)
    → Legal d o × Holds d table' lists' × HoldsOrder o x listed'
unfolding read_in read_text
read-holds {text} {table} {lists} {listed} {table'} {lists'} {listed'} {x} {d} {o} stored e =
    by-test (too_much (length text) (length table) (length listed)) refl e
  where
    by-test : (b : Bool) → too_much (length text) (length table) (length listed) ≡ b → pick b (comes overlong) (lines_in (length lists) text) ≡ comes (read d o)
        → Legal d o × Holds d table' lists' × HoldsOrder o x listed'
    by-test true q k = let z : ◌≡◌ {A = ℕ} 0 1 = cc in absurd (omega arith)
    by-test false q k =
        let room = rooms (length text) (length table) (length listed) q in
        let fit = lists-fit text (length lists) k in
        let short = (or-false→ (ltb 8192 (length text)) (ltb (length table) 140) (or-false→ _ (ltb (length listed) 64) q).0).0 in
        let legal = (accepted→ text d o (rw (short, read_text) fit.0)).1 in
        let t : table' ≡ table_after d table = stored.tabled ∙ ap (λ x. table_for x table) e in
        let l : lists' ≡ lists_over 0 d.terms lists = stored.listing ∙ ap (λ x. lists_for x lists) e in
        let w : listed' ≡ overlaid (order_words o) listed = stored.ordered ∙ ap (λ x. listed_for x listed) e in (
          legal,
          rw (t, l) (table-holds d o legal table lists room.0 fit.1),
          record {
            ordered = IfOk-at_ok (λ y. x ≡ y) (stored.result ∙ ap read_for e) refl;
            labels = rw w (order-held d o legal listed room.1);
          },
        )
