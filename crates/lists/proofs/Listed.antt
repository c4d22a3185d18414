-- The lists, entry by entry, with their words over the start of a store.
-- Assumes nothing.
use mathlib.Core.Path.{◌≡◌, refl, sym, ap, ap₂, subst, ◌∙◌}
use mathlib.Core.Bool.{Bool, true, false, ◌&&◌, false≢true}
use mathlib.Core.List.{List, [], ◌∷◌, ◌++◌, map, append_assoc, append-nil}
use Rattle.table.specs.Decoded.{name_of}
use Rattle.words.proofs.Steps.{IsStuck, rest_at, rest-drop}
use Prim.Native.Nat.{ℕ, suc, ◌+◌, ◌*◌, ◌≤◌, ◌<◌, ◌^◌}
use native.Mathlib.Omega.{arith}
use lib.Dec.{ltb, eqb}
use lib.ListN.{length, drop, set, length-append, drop_of_length-le}
use Rattle.meaning.specs.Bytes.{Text, ascii}
use Rattle.meaning.proofs.Tests.{and-true→}
use Rattle.grammar.specs.Text.{Past, past, stuck, onward, placed, is_rest, is_lower, starts, word, separated_on}
use Rattle.grammar.specs.Forms.{part, label, pair, rule, comma}
use borrow.Author.Tests.{le-leb, ltb-true, ltb-false, eqb-true}
use Rattle.grammar.specs.Faults.{fine, items_from, items_fault}
use Rattle.labels.specs.declared.Label.{Label}
use Rattle.labels.specs.Packing.{packed}
use Rattle.labels.proofs.Codes.{code_of}
use Rattle.lists.specs.Tallies.{Said, all_faults}
use Rattle.lists.specs.Entries.{name_entry, pair_entry, rule_entry, label_entry, entry_of, with_few}
use Rattle.lists.specs.Lists.{list_faults, weight_for, limit_for, word_count, entry_words, Short}
use Rattle.lists.specs.Lists.{list_words, set_from, overlaid, takes_none, whole_list, ListRead}
use Rattle.std.specs.Prelude.{None, Ok, Err}
use Rattle.words.specs.Steps.{Reading}
use Rattle.lists.specs.declared.Said as C
use Rattle.lists.specs.declared.ListKind.{ListKind}
use Rattle.lists.specs.declared.ListKind.TheVariants.{Names, Pairs, Rules, Labels}
use Rattle.lists.proofs.Seen.{said_same}
use Rattle.lists.proofs.Parts.{name-low, label_small}

-- words over the start of a store, and one more
over-one : (ws store : List ℕ) (a : ℕ) → overlaid (ws ++ (a ∷ [])) store ≡ set (overlaid ws store) (length ws) a
unfolding overlaid
over-one [] [] a = refl
over-one [] (x ∷ store) a = refl
over-one (w ∷ ws) [] a = refl
over-one (w ∷ ws) (x ∷ store) a = ap (λ l. w ∷ l) (over-one ws store a)

-- and some more
over-more : (ws store us : List ℕ) → overlaid (ws ++ us) store ≡ set_from (length ws) us (overlaid ws store)
unfolding set_from
over-more ws store [] = ap (λ l. overlaid l store) (append-nil ws)
over-more ws store (a ∷ us) =
    ap (λ l. overlaid l store) (sym (append_assoc ws (a ∷ []) us))
    ∙ over-more (ws ++ (a ∷ [])) store us
    ∙ ap₂ (λ l n. set_from n us l) (over-one ws store a) (length-append ws (a ∷ []))

pub length_over : (ws store : List ℕ) → length (overlaid ws store) ≡ length store
unfolding overlaid
length_over [] store = refl
length_over (w ∷ ws) [] = refl
length_over (w ∷ ws) (x ∷ store) = ap suc (length_over ws store)

pub words_snoc : (kind : ListKind) (es : List Said) (e : Said) → list_words kind (es ++ (e ∷ [])) ≡ list_words kind es ++ entry_words kind e
unfolding list_words
words_snoc kind [] e = append-nil (entry_words kind e)
words_snoc kind (d ∷ es) e = rw (words_snoc kind es e, append_assoc)

pub words_count : (kind : ListKind) (e : Said) → length (entry_words kind e) ≡ word_count kind
words_count Names e = refl
words_count Pairs e = refl
words_count Rules e = refl
words_count Labels e = refl

pub count_most : (kind : ListKind) → word_count kind ≤ 3
count_most Names = omega arith
count_most Pairs = omega arith
count_most Rules = omega arith
count_most Labels = omega arith

-- The number of an entry leaves room for the next, and its numbers fit its words.
abbrev Small : ListKind → Said → Type 0
Small kind e = (e.first < 2 ^ 120) × Short kind e.first e.second

abbrev SmallPast : ListKind → Past Said → Type 0
SmallPast kind (past e r) = Small kind e
SmallPast kind (stuck r) = Unit {0}

small-seen : {A : Type 0} (kind : ListKind) (say : A → Said) → ((a : A) → Small kind (say a)) → (x : Past A)
    → SmallPast kind (onward x (λ a r. past (say a) r))
small-seen kind say h (past a r) = h a
small-seen kind say h (stuck r) = tt

module _ (words : List Text) (few : length words ≤ 24) where
  small-entry : (kind : ListKind) (s : Text) → SmallPast kind (entry_of words kind s)
  small-entry Names s = small-seen Names (name_entry words) (λ w. let l = name-low words w.it in (omega arith, omega arith)) (placed word s)
  small-entry Pairs s =
      small-seen Pairs (pair_entry words)
      (λ p. let l = name-low words p.it.left.it in let r = name-low words p.it.right.it in (omega arith, omega arith)) (placed pair s)
  small-entry Rules s = small-seen Rules (rule_entry words) (λ r. (label_small words few r.from r.it.left, tt)) (placed rule s)
  small-entry Labels s = small-seen Labels (label_entry words) (λ l. (label_small words few l.from l.it, tt)) (placed label s)

  pub entry-small : (kind : ListKind) (s : Text) {e : Said} {r : Text} → past e r ≡ entry_of words kind s
      → (e.first < 2 ^ 120) × Short kind e.first e.second
  entry-small kind s h = let k = small-entry kind s in rw (← h) at k

-- Where nothing stands no entry is read.
entry-none : (words : List Text) (kind : ListKind) → entry_of words kind [] ≡ stuck []
unfolding word part pair rule separated_on
entry-none words Names = refl
entry-none words Pairs = refl
entry-none words Rules = refl
entry-none words Labels = refl

-- An entry begins with a letter, so that one which was read takes a byte at least before its comma.
entry-sign : (words : List Text) (kind : ListKind) (s : Text) → entry_of words kind (comma ∷ s) ≡ stuck (comma ∷ s)
unfolding word part pair rule separated_on is_lower
entry-sign words Names s = refl
entry-sign words Pairs s = refl
entry-sign words Rules s = refl
entry-sign words Labels s = refl

comma-first : (words : List Text) (kind : ListKind) (s : Text) {e : Said} {r : Text} → past e r ≡ entry_of words kind s → starts comma s ≡ true → ⊥
comma-first words kind [] h f = false≢true f
comma-first words kind (b ∷ s) h f =
    let z = h ∙ ap (λ c. entry_of words kind (c ∷ s)) (sym (eqb-true comma b f)) ∙ entry-sign words kind s in
    subst IsStuck (sym z) tt

pub entry-longer : (words : List Text) (kind : ListKind) (line : Text) (from next : ℕ) {e : Said} {r : Text}
    → past e r ≡ entry_of words kind (drop from line)
    → from ≤ next
    → starts comma (drop next line) ≡ true
    → from < next
entry-longer words kind line from next h w f = cases (ltb from next) refl
  where
    cases : (t : Bool) → ltb from next ≡ t → from < next
    cases true k = ltb-true from next k
    cases false k =
        let same : next ≡ from = let l = ltb-false from next k in omega arith in
        absurd (comma-first words kind (drop from line) h (rw same at f))

pub entry-within : (words : List Text) (kind : ListKind) (line : Text) (from : ℕ) {e : Said} {r : Text}
    → past e r ≡ entry_of words kind (drop from line)
    → from < length line
entry-within words kind line from {e} {r} h = cases (ltb from (length line)) refl
  where
    cases : (t : Bool) → ltb from (length line) ≡ t → from < length line
    cases true k = ltb-true from (length line) k
    cases false k =
        let z : past e r ≡ entry_of words kind [] = rw (drop_of_length-le line (ltb-false from (length line) k)) at h in
        absurd (subst IsStuck (sym (z ∙ entry-none words kind)) tt)

-- What was put into the store so far.
pub record Filled (kind : ListKind) (before : List ℕ) (es : List Said) (entries index : ℕ) (store : List ℕ) : Type 0 where
  pub entries-are : entries ≡ length es
  pub index_is : index ≡ length (list_words kind es)
  pub index-most : index ≤ 3 * entries
  pub store_is : store ≡ overlaid (list_words kind es) before

module _ (kind : ListKind) (before : List ℕ) where
  pub filled_none : Filled kind before [] 0 0 before
  unfolding overlaid list_words
  filled_none = record { entries-are = refl; index_is = refl; index-most = omega arith; store_is = refl }

  pub filled_more : {es : List Said} {entries index size : ℕ} {store after : List ℕ} (e : Said)
      → Filled kind before es entries index store
      → size ≡ word_count kind
      → after ≡ set_from index (entry_words kind e) store
      → Filled kind before (es ++ (e ∷ [])) (entries + 1) (index + size) after
  filled_more {es} {entries} {index} {size} {store} {after} e f s a =
      let w = words_snoc kind es e in
      let m = count_most kind in
      record {
        entries-are = omega (arith, f.entries-are, length-append es (e ∷ []));
        index_is = omega (arith, f.index_is, s, ap length w, length-append (list_words kind es) (entry_words kind e), words_count kind e);
        index-most = omega (arith, f.index-most, s);
        store_is =
            a ∙ rw (f.store_is, f.index_is, w) (sym (over-more (list_words kind es) before (entry_words kind e)));
      }

-- What a list that was read says of any reading of it.
abbrev list_in : Past (List Said) → List Said
list_in (past es r) = es
list_in (stuck r) = []

abbrev IsPast : Past (List Said) → Type 0
IsPast (past es r) = Unit {0}
IsPast (stuck r) = ⊥

pub not-read : {es : List Said} {p t : Text} {due : Past (List Said)} → stuck t ≡ due → past es p ≡ due → ⊥
not-read h k = subst IsPast (k ∙ sym h) tt

pub as_read : {es ds : List Said} {p t : Text} {due : Past (List Said)} → past ds t ≡ due → past es p ≡ due → ds ≡ es
as_read h k = ap list_in (h ∙ sym k)

pub weight-most : (kind : ListKind) → weight_for kind ≤ 1
weight-most Names = omega arith
weight-most Pairs = omega arith
weight-most Rules = omega arith
weight-most Labels = omega arith

pub limit-most : (kind : ListKind) → limit_for kind ≤ 32
limit-most Names = omega arith
limit-most Pairs = omega arith
limit-most Rules = omega arith
limit-most Labels = omega arith

-- The empty list, as it is said.
pub list-none : (kind : ListKind) → fine ≡ list_faults kind []
unfolding all_faults items_fault items_from
list-none kind = refl

pub over_none : (kind : ListKind) (store : List ℕ) → store ≡ overlaid (list_words kind []) store
unfolding overlaid list_words
over_none kind store = refl

-- (`none` and the LF behind it stand in the line)
rest-within : (w line : Text) → is_rest w line ≡ true → length w ≤ length line
unfolding is_rest
rest-within [] line h = omega arith
rest-within (c ∷ w) [] h = absurd (false≢true h)
rest-within (c ∷ w) (b ∷ line) h = let k = rest-within w line (and-true→ (eqb c b) (is_rest w line) h).1 in omega arith

pub none_read : (kind : ListKind) (line : Text) (store : List ℕ) {none : Label} → none ≡ packed 0
    → (takes_none kind && is_rest (ascii "none") line) ≡ true
    → ListRead kind line (past [] (drop 4 line)) store store (Ok (record { value = record { fault = None; first = none; second = 0 }; bytes = 4 }))
none_read kind line store e h =
    record {
      read =
          record {
            stands =
                record {
                  says = ap (λ s. past s (drop 4 line)) (said_same (list-none kind) (code_of e) refl);
                  within = rest-within (ascii "none") line (and-true→ (takes_none kind) (is_rest (ascii "none") line) h).1;
                };
          };
      stored = λ es p h. over_none kind store ∙ ap (λ l. overlaid (list_words kind l) store) (sym (as_read h refl));
    }

-- More names than a description has.
pub many_read : (kind : ListKind) (line : Text) (before after : List ℕ) → ListRead kind line (stuck line) before after (Err (record { after = 0 }))
many_read kind line before after =
    record { read = record { stands = record { says = refl; within = omega arith } }; stored = λ es p h. absurd (not-read refl h) }

-- A list at a place of the line, with few enough names.
pub list-there : (names : List ℕ) (kind : ListKind) (line : Text) (at : ℕ) {before after : List ℕ} {r : Reading C.Said}
    → length names ≤ 24
    → at ≤ length line
    → ListRead kind (rest_at line at) (with_few names (whole_list (map (name_of 8) names) kind (rest_at line at)) (rest_at line at)) before after r
    → ListRead kind (drop at line) (whole_list (map (name_of 8) names) kind (drop at line)) before after r
list-there names kind line at few h l = rw (le-leb (length names) 24 few, rest-drop line at h) at l
