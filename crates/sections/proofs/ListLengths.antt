-- A term's line that has no fault has a list of at most 64 words.
-- Assumes nothing.
use mathlib.Core.Path.{◌≡◌, sym, subst}
use mathlib.Core.List.{List, [], ◌∷◌, map}
use Prim.Native.Nat.{ℕ, ◌≤◌, ◌<◌, zero-le}
use native.Mathlib.Omega.{arith}
use lib.ListN.{length, length-map}
use Rattle.meaning.specs.Bytes.{Text}
use Rattle.meaning.specs.Labels.{number}
use Rattle.meaning.specs.Descriptions as D
use Rattle.meaning.specs.Legal.{Each, LegalOperator}
use Rattle.areas.proofs.Held.{length-in_words}
use Rattle.table.specs.Encoded.{pair_word, operator_words, term_words}
use Rattle.table.proofs.PackedTerms.{rising-few, rising-pairs}
use Rattle.table.proofs.TableTerms.{length-rule_words}
use Rattle.grammar.specs.Text.{past, Placed}
use Rattle.grammar.specs.Forms.{Listed, block, hide, rename, comm, allow, Line, plain, acts, wraps, term_line}
use Rattle.grammar.specs.Faults.{Found, fine, items_fault, name_number, name_fault, pair_fault, rule_fault, label_fault, words_fault, pairs_fault, rules_fault, labels_fault}
use Rattle.grammar.specs.Faults.{list_fault, label_said, pair_said, rule_said, operator_said, term_said, places_of, range_fault, words_of_fault, term_fault}
use Rattle.grammar.proofs.Findings.{IsFine, fine-worse}
use Rattle.grammar.proofs.Items.{item, items-say, weigh-alike}
use Rattle.grammar.proofs.Atoms.{known-says}
use Rattle.grammar.proofs.TermLines.{Sayable, writes-term}

-- A legal list has at most 64 words: those of 32 labels.
pub operator-fits : (names : ℕ) → names ≤ 24 → (o : D.Operator) → LegalOperator names o → length (operator_words o) ≤ 64
operator-fits names few (D.block ns) l = omega (arith, rising-few names ns l.2 l.1)
operator-fits names few (D.hide ns) l = omega (arith, rising-few names ns l.2 l.1)
operator-fits names few (D.rename ps) l = omega (arith, rising-pairs names ps l.1 l.2, length-map ps pair_word)
operator-fits names few (D.comm rs) l = omega (arith, length-rule_words rs, l.1)
operator-fits names few (D.allow ls) l = omega (arith, length-in_words (map number ls), length-map ls number, l.0)

-- A line without names has a term that is said without any.
sayable-few : (t : D.Term) → Sayable 0 t → length (term_words t) ≤ 64
sayable-few (D.act a) l = zero-le
sayable-few D.tau l = zero-le
sayable-few D.delta l = zero-le
sayable-few (D.ref e) l = zero-le
sayable-few (D.sum t) l = zero-le
sayable-few (D.cond t) l = zero-le
sayable-few (D.choice t u) l = zero-le
sayable-few (D.ifelse t u) l = zero-le
sayable-few (D.seq t u) l = zero-le
sayable-few (D.merge t u) l = zero-le
sayable-few (D.lmerge t u) l = zero-le
sayable-few (D.sync t u) l = zero-le
sayable-few (D.wrap o t) l = operator-fits 0 (omega arith) o l.1

-- Entries without fault, whose keys ascend below a bound: there are no more than the bound.
module _ {X Y : Type 0} (says : X → Y) (own : X → Found) (from : X → ℕ) (key : Y → ℕ) where
  keys_below : (m : ℕ) → ((x : X) → IsFine (own x) → key (says x) < m) → (xs : List X) → Each (λ x. IsFine (own x)) xs
      → Each (λ n. n < m) (map key (map says xs))
  keys_below m low [] f = tt
  keys_below m low (x ∷ xs) f = (low x f.0, keys_below m low xs f.1)

  keys-few : (m : ℕ) → ((x : X) → IsFine (own x) → key (says x) < m) → (xs : List X)
      → IsFine (items_fault 0 (map (item says own from key (λ _. 0) 0) xs)) → length (map says xs) ≤ m
  keys-few m low xs f =
      let k = (items-say says own from key (λ _. 0) 0 xs).0 f in
      omega (arith, rising-few m (map key (map says xs)) k.1 (keys_below m low xs k.0), length-map (map says xs) key)

  -- where each counts for one, there are no more than the limit
  ones-few : (limit : ℕ) (xs : List X) → IsFine (items_fault limit (map (item says own from key (λ _. 1) limit) xs)) → length (map says xs) ≤ limit
  ones-few limit xs f = omega (arith, ((items-say says own from key (λ _. 1) limit xs).0 f).2, weigh-alike 1 (map says xs))

module _ (words : List Text) (few : length words ≤ 24) where
  names-few : (ws : List (Placed Text)) → IsFine (words_fault words ws) → length (map (λ w. name_number words w.it) ws) ≤ 24
  unfolding words_fault
  names-few ws f =
      omega (arith, keys-few (λ w. name_number words w.it) (name_fault words) (λ w. w.from) (λ n. n) (length words) (λ w. (known-says words w).0) ws f)

  list-few : (l : Listed) → IsFine (list_fault words l) → length (operator_words (operator_said words l)) ≤ 64
  unfolding pairs_fault rules_fault labels_fault
  list-few (block ws) f = omega (arith, names-few ws f)
  list-few (hide ws) f = omega (arith, names-few ws f)
  list-few (rename ps) f =
      let n = keys-few (λ p. pair_said words p.it) (λ p. pair_fault words p.it) (λ p. p.from) (λ p. p.left) (length words)
      (λ p g. (known-says words p.it.left).0 ((fine-worse (name_fault words p.it.left) (name_fault words p.it.right)).0 g).0) ps f in
      omega (arith, length-map (map (λ p. pair_said words p.it) ps) pair_word)
  list-few (comm rs) f =
      let n = ones-few (λ r. rule_said words r.it) (λ r. rule_fault words r.from r.it) (λ r. r.from) (λ r. number r.left) 8 rs f in
      omega (arith, length-rule_words (map (λ r. rule_said words r.it) rs))
  list-few (allow ls) f =
      let n = ones-few (λ l. label_said words l.it) (λ l. label_fault words l.from l.it) (λ l. l.from) number 32 ls f in
      let labels = map (λ l. label_said words l.it) ls in
      omega (arith, length-in_words (map number labels), length-map labels number)

  line-few : (s r : Text) (l : Line) → term_line s ≡ past l r → IsFine (words_of_fault words l) → length (term_words (term_said words l)) ≤ 64
  unfolding words_of_fault
  line-few s r (plain t at) e f =
      let m = ((writes-term [] (tt, tt, tt)).sound s).holds (plain t at) r e tt in rw m.builds (sayable-few m.source m.legal)
  line-few s r (acts w) e f = zero-le
  line-few s r (wraps l t) e f = list-few l f

  pub list-fits : (equations n : ℕ) (s r : Text) (l : Line) → term_line s ≡ past l r → term_fault words equations n l ≡ fine
      → length (term_words (term_said words l)) ≤ 64
  unfolding term_fault
  list-fits equations n s r l q e =
      line-few s r l q ((fine-worse (words_of_fault words l) (range_fault equations n (term_said words l) (places_of l))).0 (subst IsFine (sym e) tt)).0
