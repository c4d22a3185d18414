-- The table and the lists that are left hold the description, and the order's words its labels.
-- Assumes nothing.
use mathlib.Core.Path.{◌≡◌, refl, sym, ap, ◌∙◌}
use mathlib.Core.List.{List, [], ◌∷◌, map}
use Prim.Native.Nat.{ℕ, zero, suc, ◌+◌, ◌*◌, ◌≤◌, ◌<◌, zero-le}
use native.Mathlib.Omega.{arith}
use lib.ListN.{length, take, drop, get_or, length-map}
use Rattle.meaning.specs.Labels.{number}
use Rattle.meaning.specs.Descriptions as D
use Rattle.meaning.specs.Legal.{Legal, LegalTerm, LegalTerms, LegalOrder}
use Rattle.areas.proofs.Held.{length-in_words}
use Rattle.table.specs.Encoded.{slot_of, term_words, order_words}
use Rattle.table.specs.Holding.{Holds}
use Rattle.lists.specs.Lists.{overlaid}
use Rattle.sections.specs.Laying.{laid_at, lists_over, with_counts, with_terms, table_after}
use Rattle.sections.proofs.Laid.{length-laid, laid-held, part-laid-before, part-laid-behind, get_d-laid-before, get_d-laid}
use Rattle.sections.proofs.Places.{length-counts, count_at, names-laid}
use Rattle.sections.proofs.ListLengths.{operator-fits}

-- A legal list has at most 64 words.
module _ (d : D.Description) (few : D.names d ≤ 24) where
  term_fits : (n : ℕ) (t : D.Term) → LegalTerm d n t → length (term_words t) ≤ 64
  term_fits n (D.act a) l = zero-le
  term_fits n D.tau l = zero-le
  term_fits n D.delta l = zero-le
  term_fits n (D.ref e) l = zero-le
  term_fits n (D.sum t) l = zero-le
  term_fits n (D.cond t) l = zero-le
  term_fits n (D.choice t u) l = zero-le
  term_fits n (D.ifelse t u) l = zero-le
  term_fits n (D.seq t u) l = zero-le
  term_fits n (D.merge t u) l = zero-le
  term_fits n (D.lmerge t u) l = zero-le
  term_fits n (D.sync t u) l = zero-le
  term_fits n (D.wrap o t) l = operator-fits (D.names d) few o l.1

-- The lists of later terms leave what is before them.
lists-before : (from k n : ℕ) (ts : List D.Term) (lists : List ℕ) → from + k ≤ 64 * n → take k (drop from (lists_over n ts lists)) ≡ take k (drop from lists)
unfolding lists_over
lists-before from k n [] lists h = refl
lists-before from k n (t ∷ ts) lists h =
    lists-before from k (suc n) ts (laid_at (64 * n) (term_words t) lists) (omega arith)
    ∙ part-laid-before from k (64 * n) (term_words t) lists h

-- The list of each term, the terms numbered from m on.
module _ (d : D.Description) (few : D.names d ≤ 24) where
  lists-held : (m : ℕ) (ts : List D.Term) (lists : List ℕ) → LegalTerms d m ts → 64 * (m + length ts) ≤ length lists → (n : ℕ) → n < length ts
      → take (length (term_words (get_or ts n D.delta))) (drop (64 * (m + n)) (lists_over m ts lists)) ≡ term_words (get_or ts n D.delta)
  unfolding lists_over
  lists-held m [] lists l room n h = absurd (omega arith)
  lists-held m (t ∷ ts) lists l room zero h =
      let ws = term_words t in
      let fits = term_fits d few m t l.0 in
      let e : m + 0 ≡ m = omega arith in
      rw e (lists-before (64 * m) (length ws) (suc m) ts (laid_at (64 * m) ws lists) (omega arith) ∙ laid-held (64 * m) ws lists (omega arith))
  lists-held m (t ∷ ts) lists l room (suc n) h =
      let e : m + suc n ≡ suc m + n = omega arith in
      let k = length-laid (64 * m) (term_words t) lists in
      rw e (lists-held (suc m) ts (laid_at (64 * m) (term_words t) lists) l.1 (omega arith) n (omega arith))

module _ (d : D.Description) (o : D.Order) (legal : Legal d o) (table lists : List ℕ) (long : 140 ≤ length table)
    (room : 64 * D.term_count d ≤ length lists) where
  abbrev counted : List ℕ
  counted = with_counts d.words (D.equations d) (D.term_count d) table

  abbrev termed : List ℕ
  termed = with_terms d.terms counted

  abbrev bodied : List ℕ
  bodied = laid_at 28 d.bodies termed

  length-termed : length termed ≡ length table
  length-termed = length-laid 44 (map slot_of d.terms) counted ∙ length-counts d.words (D.equations d) (D.term_count d) table

  -- the first three words
  count_left : (i : ℕ) → i < 3 → get_or (table_after d table) i 0 ≡ get_or (D.names d ∷ D.equations d ∷ D.term_count d ∷ []) i 0
  count_left i h =
      get_d-laid-before i 3 (d.root ∷ []) bodied 0 h ∙ get_d-laid-before i 28 d.bodies termed 0 (omega arith)
      ∙ get_d-laid-before i 44 (map slot_of d.terms) counted 0 (omega arith)
      ∙ count_at d.words (D.equations d) (D.term_count d) table long i h

  -- the root is laid last, before all others
  behind-root : (from n : ℕ) → 4 ≤ from → take n (drop from (table_after d table)) ≡ take n (drop from bodied)
  behind-root from n h = part-laid-behind from n 3 (d.root ∷ []) bodied (omega arith)

  pub table-holds : Holds d (table_after d table) (lists_over 0 d.terms lists)
  table-holds =
      let narrow = legal.name_count.1 in
      let few = legal.equation_count in
      let short = legal.terms_count.1 in
      let l = length-termed in
      let b = length-laid 28 d.bodies termed in
      let k = length-counts d.words (D.equations d) (D.term_count d) table in
      let s = length-map d.terms slot_of in
      record {
        named = count_left 0 (omega arith);
        equated = count_left 1 (omega arith);
        counted = count_left 2 (omega arith);
        rooted = get_d-laid 0 3 (d.root ∷ []) bodied 0 (omega arith) (omega arith);
        names = behind-root 4 (D.names d) (omega arith) ∙ part-laid-before 4 (D.names d) 28 d.bodies termed (omega arith)
            ∙ part-laid-before 4 (D.names d) 44 (map slot_of d.terms) counted (omega arith)
            ∙ names-laid d.words (D.equations d) (D.term_count d) table long narrow;
        bodies = behind-root 28 (D.equations d) (omega arith) ∙ laid-held 28 d.bodies termed (omega arith);
        terms = behind-root 44 (D.term_count d) (omega arith) ∙ part-laid-behind 44 (D.term_count d) 28 d.bodies termed (omega arith)
            ∙ ap (λ n. take n (drop 44 termed)) (sym s) ∙ laid-held 44 (map slot_of d.terms) counted (omega arith);
        listed = λ n h.
            let e : 0 + n ≡ n = omega arith in
            rw e at (lists-held d narrow 0 d.terms lists legal.terms (omega arith) n h);
      }

-- The order's labels.
order-fits : (names : ℕ) (o : D.Order) → LegalOrder names o → length (order_words o) ≤ 64
order-fits names D.all l = zero-le
order-fits names (D.only ls) l = omega (arith, length-in_words (map number ls), length-map ls number, l.0)

pub order-held : (d : D.Description) (o : D.Order) → Legal d o → (listed : List ℕ) → 64 ≤ length listed
    → take (length (order_words o)) (overlaid (order_words o) listed) ≡ order_words o
unfolding laid_at
order-held d o legal listed h = let few = order-fits (D.names d) o legal.order in laid-held 0 (order_words o) listed (omega arith)
