-- The lists of a line against their entries: faults, numbers of entries, and words.
-- Assumes nothing.
use mathlib.Core.Path.{◌≡◌, refl, sym, ap, ap₂, ◌∙◌}
use mathlib.Core.Bool.{Bool, true, false}
use mathlib.Core.List.{List, [], ◌∷◌, map}
use Prim.Native.Nat.{ℕ, suc, ◌+◌, ◌*◌, ◌/◌, ◌%◌, ◌^◌, ◌≤◌}
use native.Mathlib.Omega.{arith}
use lib.Dec.{leb}
use lib.ListN.{length}
use Rattle.meaning.specs.Bytes.{Text, ascii}
use Rattle.meaning.specs.Labels as L
use Rattle.meaning.specs.Labels.{in_words}
use Rattle.meaning.specs.Legal.{Each}
use Rattle.meaning.specs.Answers.{amount}
use Rattle.table.specs.Encoded.{pair_word, rule_words}
use Rattle.grammar.specs.Text.{past, onward, Placed, placed, is_rest}
use Rattle.grammar.specs.Forms.{Parts, WordPair, WordRule, comma, label, label_list}
use Rattle.grammar.specs.Faults.{fine, worse, unless, items_fault, rule_item, label_item}
use Rattle.grammar.specs.Faults.{name_fault, label_fault, rule_fault, words_fault, pairs_fault, rules_fault, labels_fault}
use Rattle.grammar.specs.Faults.{name_number, actions, number_said, label_said, pair_said, rule_said}
use Rattle.faults.proofs.Ranks.{worse-none}
use Rattle.lists.specs.Tallies.{item_of}
use Rattle.lists.specs.Entries.{name_entry, pair_entry, rule_entry, label_entry, unless_faulty}
use Rattle.lists.specs.Lists.{list_faults, list_words, list_of, unless_none, whole_list}
use Rattle.lists.specs.declared.ListKind.TheVariants.{Names, Pairs, Rules, Labels}
use Rattle.lists.proofs.Items.{weight_of, items-fine, items-within, keys-aside}
use Rattle.lists.proofs.Tallied.{said-faults}
use Rattle.lists.proofs.Gathered.{all-too}

weight-ones : {A : Type 0} (xs : List A) → weight_of (λ x. 1) xs ≡ length xs
unfolding weight_of
weight-ones [] = refl
weight-ones (x ∷ xs) = let ih = weight-ones xs in omega arith

module _ (words : List Text) where
  label-key : (from : ℕ) (ps : Parts) → label_fault words from ps ≡ fine
      → number_said words ps ≡ unless_faulty (label_fault words from ps) (number_said words ps)
  label-key from ps e = rw e

  left_key : (r : Placed WordRule) → rule_fault words r.from r.it ≡ fine → number_said words r.it.left ≡ (rule_entry words r).first
  left_key r e =
      let left = label_fault words r.from r.it.left in
      let enough = unless (leb 2 (actions r.it.left)) amount r.from in
      label-key r.from r.it.left (worse-none left enough (worse-none (worse left enough) (name_fault words r.it.right) e).0).0

  -- The faults of a list from what its entries say.
  pub names-faults : (ws : List (Placed Text)) → words_fault words ws ≡ list_faults Names (map (name_entry words) ws)
  unfolding words_fault
  names-faults ws = said-faults (λ e. 0) (λ e. e.from) 0 (name_entry words) ws

  pub pairs-faults : (ps : List (Placed WordPair)) → pairs_fault words ps ≡ list_faults Pairs (map (pair_entry words) ps)
  unfolding pairs_fault
  pairs-faults ps = said-faults (λ e. 0) (λ e. e.from) 0 (pair_entry words) ps

  pub rules-faults : (rs : List (Placed WordRule)) → rules_fault words rs ≡ list_faults Rules (map (rule_entry words) rs)
  unfolding rules_fault items_fault
  rules-faults rs =
      keys-aside (λ r. item_of (λ e. 1) (λ e. e.from) (rule_entry words r)) (λ r. number_said words r.it.left) 8 left_key 0 0 rs
      ∙ said-faults (λ e. 1) (λ e. e.from) 8 (rule_entry words) rs

  pub labels-faults : (ls : List (Placed Parts)) → labels_fault words ls ≡ list_faults Labels (map (label_entry words) ls)
  unfolding labels_fault items_fault
  labels-faults ls =
      keys-aside (λ l. item_of (λ e. 1) (λ e. e.from) (label_entry words l)) (λ l. number_said words l.it) 32 (λ l. label-key l.from l.it) 0 0 ls
      ∙ said-faults (λ e. 1) (λ e. e.from) 32 (label_entry words) ls

  -- The words of a list, where it has no fault.
  pub names-words : (ws : List (Placed Text)) → list_words Names (map (name_entry words) ws) ≡ map (λ w. name_number words w.it) ws
  unfolding list_words
  names-words [] = refl
  names-words (w ∷ ws) = ap (λ l. name_number words w.it ∷ l) (names-words ws)

  pub pairs-words : (ps : List (Placed WordPair)) → list_words Pairs (map (pair_entry words) ps) ≡ map pair_word (map (λ p. pair_said words p.it) ps)
  unfolding list_words
  pairs-words [] = refl
  pairs-words (p ∷ ps) = ap (λ l. (name_number words p.it.left.it + 32 * name_number words p.it.right.it) ∷ l) (pairs-words ps)

  each-rule : (rs : List (Placed WordRule)) → Each (λ r. rule_fault words r.from r.it ≡ fine) rs
      → list_words Rules (map (rule_entry words) rs) ≡ rule_words (map (λ r. rule_said words r.it) rs)
  unfolding list_words rule_words
  each-rule [] h = refl
  each-rule (r ∷ rs) h =
      ap₂ {C = List ℕ} (λ n l. n % 2 ^ 60 ∷ n / 2 ^ 60 ∷ name_number words r.it.right.it ∷ l) (sym (left_key r h.0)) (each-rule rs h.1)

  each_label : (ls : List (Placed Parts)) → Each (λ l. label_fault words l.from l.it ≡ fine) ls
      → list_words Labels (map (label_entry words) ls) ≡ in_words (map L.number (map (λ l. label_said words l.it) ls))
  unfolding list_words in_words
  each_label [] h = refl
  each_label (l ∷ ls) h = ap₂ {C = List ℕ} (λ n ws. n % 2 ^ 60 ∷ n / 2 ^ 60 ∷ ws) (sym (label-key l.from l.it h.0)) (each_label ls h.1)

  pub rules-words : (rs : List (Placed WordRule)) → rules_fault words rs ≡ fine
      → list_words Rules (map (rule_entry words) rs) ≡ rule_words (map (λ r. rule_said words r.it) rs)
  unfolding rules_fault items_fault
  rules-words rs e = each-rule rs (items-fine (rule_item words) 8 0 0 rs e)

  pub labels-fine : (ls : List (Placed Parts)) → labels_fault words ls ≡ fine → Each (λ l. label_fault words l.from l.it ≡ fine) ls
  unfolding labels_fault items_fault
  labels-fine ls e = items-fine (label_item words) 32 0 0 ls e

  pub labels-words : (ls : List (Placed Parts)) → labels_fault words ls ≡ fine
      → list_words Labels (map (label_entry words) ls) ≡ in_words (map L.number (map (λ l. label_said words l.it) ls))
  labels-words ls e = each_label ls (labels-fine ls e)

  pub labels-few : (ls : List (Placed Parts)) → labels_fault words ls ≡ fine → length ls ≤ 32
  unfolding labels_fault items_fault
  labels-few ls e = let h = items-within (label_item words) 32 0 0 ls (omega arith) e in omega (arith, weight-ones ls)

  -- The labels as what they say.
  pub labels-too : (s : Text) → whole_list words Labels s ≡ onward (label_list s) (λ ls o. past (map (label_entry words) ls) o)
  unfolding label_list
  labels-too s = cases (is_rest (ascii "none") s) refl
    where
      cases : (t : Bool) → is_rest (ascii "none") s ≡ t
          → unless_none t s (list_of words Labels s) ≡ onward (label_list s) (λ ls o. past (map (label_entry words) ls) o)
      cases true e = rw (e, label_list)
      cases false e = rw (e, label_list) (all-too (label_entry words) comma (placed label) (suc (length s)) s)
