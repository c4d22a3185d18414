-- Words over part of an area: the others stay as they were.
-- Assumes nothing.
use Rattle.std.specs.Prelude.{List, [], ◌∷◌, ◌++◌, map, ℕ, suc, ◌*◌, length, take, drop}
use Rattle.meaning.specs.Descriptions as D
use Rattle.table.specs.Encoded.{word_of, slot_of, term_words}
use Rattle.lists.specs.Lists.{overlaid}

-- from a place on, as far as the area reaches
unfoldable pub laid_at : ℕ → (words area : List ℕ) → List ℕ
laid_at at words area = take at area ++ overlaid words (drop at area)

-- the lists of terms from the n-th on, each in the 64 words of its number
unfoldable pub lists_over : ℕ → List D.Term → List ℕ → List ℕ
lists_over n [] lists = lists
lists_over n (t ∷ ts) lists = lists_over (suc n) ts (laid_at (64 * n) (term_words t) lists)

-- The table of a description, section after section, each over what was there.
abbrev pub with_counts : (words : List (List ℕ)) (equations terms : ℕ) → List ℕ → List ℕ
with_counts words equations terms table = laid_at 0 (length words ∷ equations ∷ terms ∷ []) (laid_at 4 (map word_of words) table)

abbrev pub with_terms : List D.Term → List ℕ → List ℕ
with_terms terms table = laid_at 44 (map slot_of terms) table

abbrev pub with_foot : (bodies : List ℕ) (root : ℕ) → List ℕ → List ℕ
with_foot bodies root table = laid_at 3 (root ∷ []) (laid_at 28 bodies table)

abbrev pub table_after : D.Description → List ℕ → List ℕ
table_after d table = with_foot d.bodies d.root (with_terms d.terms (with_counts d.words (length d.bodies) (length d.terms) table))
