-- The lists as the code reads them: one kind of entry after the other, and the words that each puts into the store.
-- Assumes nothing.
use Rattle.std.specs.Prelude.{List, [], ◌∷◌, ◌++◌, Bool, true, false, ◌&&◌, ◌≡◌, ℕ, ◌+◌, ◌*◌, ◌^◌, ◌<◌, length, drop, set}
use Rattle.meaning.specs.Bytes.{Text, ascii}
use Rattle.meaning.specs.Labels.{lower_word, upper_word}
use Rattle.grammar.specs.Text.{Past, past, onward, is_rest, separated}
use Rattle.grammar.specs.Forms.{comma}
use Rattle.grammar.specs.Faults.{Found}
use Rattle.lists.specs.Tallies.{Said, all_faults}
use Rattle.lists.specs.Entries.{Says, entry_of}
use Rattle.words.specs.Steps.{Reading}
use Rattle.lists.specs.declared.Said as C
use Rattle.lists.specs.declared.ListKind.{ListKind}
use Rattle.lists.specs.declared.ListKind.TheVariants.{Names, Pairs, Rules, Labels}

-- Only rules and labels have a maximum.
abbrev pub weight_for : ListKind → ℕ
weight_for Names = 0
weight_for Pairs = 0
weight_for Rules = 1
weight_for Labels = 1

abbrev pub limit_for : ListKind → ℕ
limit_for Names = 0
limit_for Pairs = 0
limit_for Rules = 8
limit_for Labels = 32

abbrev pub list_faults : ListKind → List Said → Found
list_faults kind es = all_faults (λ e. weight_for kind) (λ e. e.from) (limit_for kind) es

-- A list's fault and how many entries it has.
abbrev pub list_entry : (from : ℕ) → ListKind → List Said → Said
list_entry from kind es = record { found = list_faults kind es; first = length es; second = 0; from = from }

abbrev pub list_of : List Text → ListKind → Text → Past (List Said)
list_of words kind = separated comma (entry_of words kind)

-- The words of an entry, and of a list.
abbrev pub word_count : ListKind → ℕ
word_count Names = 1
word_count Pairs = 1
word_count Rules = 3
word_count Labels = 2

-- A pair is one word, its right side in the next five bits; a label is two words, the lower first.
abbrev pub words_said : ListKind → (first second : ℕ) → List ℕ
words_said Names first second = first ∷ []
words_said Pairs first second = (first + 32 * second) ∷ []
words_said Rules first second = lower_word first ∷ upper_word first ∷ second ∷ []
words_said Labels first second = lower_word first ∷ upper_word first ∷ []

abbrev pub entry_words : ListKind → Said → List ℕ
entry_words kind e = words_said kind e.first e.second

unfoldable pub list_words : ListKind → List Said → List ℕ
list_words kind [] = []
list_words kind (e ∷ es) = entry_words kind e ++ list_words kind es

-- words over the start of a store, as far as it reaches
unfoldable pub overlaid : List ℕ → List ℕ → List ℕ
overlaid [] store = store
overlaid (w ∷ ws) [] = []
overlaid (w ∷ ws) (x ∷ store) = w ∷ overlaid ws store

-- the numbers of an entry that fit its words: the first is a name's but in rules and labels
abbrev pub Short : ListKind → (first second : ℕ) → Type 0
Short Names first second = first < 2 ^ 64
Short Pairs first second = first + 32 * second < 2 ^ 64
Short Rules first second = Unit {0}
Short Labels first second = Unit {0}

-- words set one after the other from a place on, as far as the store reaches
unfoldable pub set_from : ℕ → List ℕ → List ℕ → List ℕ
set_from at [] store = store
set_from at (w ∷ ws) store = set_from (at + 1) ws (set store at w)

-- `none` is the list of no labels.
abbrev pub unless_none : Bool → Text → Past (List Said) → Past (List Said)
unless_none true s other = past [] (drop 4 s)
unless_none false s other = other

abbrev pub takes_none : ListKind → Bool
takes_none Names = false
takes_none Pairs = false
takes_none Rules = false
takes_none Labels = true

abbrev pub whole_list : List Text → ListKind → Text → Past (List Said)
whole_list words kind s = unless_none (takes_none kind && is_rest (ascii "none") s) s (list_of words kind s)

-- A list that is read: its fault and its number of entries, and its words over the start of the store.
pub record ListRead (kind : ListKind) (line : Text) (due : Past (List Said)) (before after : List ℕ) (r : Reading C.Said) : Type 0 where
  pub read : Says line r (onward due (λ es p. past (list_entry (length line) kind es) p))
  pub stored : (es : List Said) (p : Text) → past es p ≡ due → after ≡ overlaid (list_words kind es) before
