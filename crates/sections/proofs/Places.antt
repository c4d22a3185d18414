-- What stands where in the table once a section is laid over it.
-- Assumes nothing.
use mathlib.Core.Path.{◌≡◌, sym, ap, ◌∙◌}
use mathlib.Core.List.{List, [], ◌∷◌, map}
use Prim.Native.Nat.{ℕ, ◌+◌, ◌≤◌, ◌<◌, min}
use native.Mathlib.Omega.{arith}
use lib.ListN.{length, take, drop, get_or, length-take, length-drop, length-map}
use Rattle.meaning.specs.Bytes.{Text}
use Rattle.meaning.specs.Descriptions as D
use Rattle.table.specs.Encoded.{word_of, slot_of}
use Rattle.table.specs.Holding.{names_in, bodies_in}
use Rattle.sections.specs.Laying.{laid_at, with_counts, with_terms, with_foot}
use Rattle.sections.proofs.Laid.{length-laid, laid-held, part-laid-before, part-laid-behind, get_d-laid-before, get_d-laid}

-- The counts and the names.
module _ (words : List Text) (e t : ℕ) (table : List ℕ) where
  pub length-counts : length (with_counts words e t table) ≡ length table
  length-counts = length-laid 0 (length words ∷ e ∷ t ∷ []) (laid_at 4 (map word_of words) table) ∙ length-laid 4 (map word_of words) table

  module _ (long : 140 ≤ length table) where
    pub count_at : (i : ℕ) → i < 3 → get_or (with_counts words e t table) i 0 ≡ get_or (length words ∷ e ∷ t ∷ []) i 0
    count_at i h =
        let l = length-laid 4 (map word_of words) table in
        let n : 0 + i ≡ i = omega arith in
        rw n at (get_d-laid i 0 (length words ∷ e ∷ t ∷ []) (laid_at 4 (map word_of words) table) 0 h (omega arith))

    pub names-laid : length words ≤ 24 → take (length words) (drop 4 (with_counts words e t table)) ≡ map word_of words
    names-laid few =
        let l = length-map words word_of in
        part-laid-behind 4 (length words) 0 (length words ∷ e ∷ t ∷ []) (laid_at 4 (map word_of words) table) (omega arith)
        ∙ ap (λ n. take n (drop 4 (laid_at 4 (map word_of words) table))) (sym l) ∙ laid-held 4 (map word_of words) table (omega arith)

    pub names-after-counts : length words ≤ 24 → names_in (with_counts words e t table) ≡ map word_of words
    names-after-counts few =
        let n = count_at 0 (omega arith) in
        let m : min (get_or (with_counts words e t table) 0 0) 24 ≡ length words = omega arith in
        ap (λ k. take k (drop 4 (with_counts words e t table))) m ∙ names-laid few

    pub equations-after-counts : e ≤ 16 → length (bodies_in (with_counts words e t table)) ≡ e
    equations-after-counts few =
        let n = count_at 1 (omega arith) in
        let l = length-counts in
        let d = length-drop 28 (with_counts words e t table) in
        length-take (min (get_or (with_counts words e t table) 1 0) 16) (drop 28 (with_counts words e t table)) ∙ omega arith

-- Words behind the names leave them, and so does the root.
names-before : (at : ℕ) (ws table : List ℕ) → 28 ≤ at → names_in (laid_at at ws table) ≡ names_in table
names-before at ws table h =
    ap (λ k. take (min k 24) (drop 4 (laid_at at ws table))) (get_d-laid-before 0 at ws table 0 (omega arith))
    ∙ part-laid-before 4 (min (get_or table 0 0) 24) at ws table (omega arith)

pub names-after-terms : (ts : List D.Term) (table : List ℕ) → names_in (with_terms ts table) ≡ names_in table
names-after-terms ts table = names-before 44 (map slot_of ts) table (omega arith)

pub names-after-foot : (bodies : List ℕ) (root : ℕ) (table : List ℕ) → names_in (with_foot bodies root table) ≡ names_in table
names-after-foot bodies root table =
    let inner = laid_at 28 bodies table in
    ap (λ k. take (min k 24) (drop 4 (laid_at 3 (root ∷ []) inner))) (get_d-laid-before 0 3 (root ∷ []) inner 0 (omega arith))
    ∙ part-laid-behind 4 (min (get_or inner 0 0) 24) 3 (root ∷ []) inner (omega arith)
    ∙ names-before 28 bodies table (omega arith)

-- There are at most as many as there is room for.
pub names-few : (table : List ℕ) → length (names_in table) ≤ 24
names-few table = omega (arith, length-take (min (get_or table 0 0) 24) (drop 4 table))

pub bodies-few : (table : List ℕ) → length (bodies_in table) ≤ 16
bodies-few table = omega (arith, length-take (min (get_or table 1 0) 16) (drop 28 table))
