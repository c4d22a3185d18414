-- The lists of a legal description's terms, as the ways take them.
-- Assumes nothing.
use mathlib.Core.Path.{◌≡◌, refl, ap, ◌∙◌}
use mathlib.Core.List.{List, [], ◌∷◌}
use Prim.Native.Nat.{ℕ, ◌+◌, ◌*◌, ◌/◌, ◌%◌, ◌^◌, ◌≤◌, ◌<◌}
use native.Mathlib.Omega.{arith}
use lib.ListN.{length}
use lib.Seq.{take_all}
use Rattle.meaning.specs.Labels.{number}
use Rattle.meaning.specs.Descriptions.{Description, Rule, Operator, block, hide, rename, comm, allow, wrap, names, term_count, term_at}
use Rattle.meaning.specs.Legal.{Each, LegalRule, LegalOperator}
use Rattle.table.specs.Encoded as T
use Rattle.table.specs.Holding.{HoldsLists}
use Rattle.table.proofs.TableTerms.{length-rule_words, list-stored}
use Rattle.areas.specs.Rows.{held}
use Rattle.areas.proofs.Held.{held-in_words}
use Rattle.areas.proofs.Entries.{pair_words, label_numbers, rule_labels}
use Rattle.labels.proofs.Refinement.{single-number}
use Rattle.ordering.specs.Ordering.{rules_for}
use Rattle.images.specs.declared.Way.{Way}
use Rattle.images.specs.declared.Way.TheVariants.{Block, Hide, Rename, Comm, Allow}
use Rattle.operators.specs.Exchanging.{exchange_labels}
use Rattle.operators.specs.Operators.{rule_list, way_for, words_for}

-- The way of each operator, and its list as a way takes it.
abbrev pub way_of : Operator → Way
way_of (block ns) = Block
way_of (hide ns) = Hide
way_of (rename ps) = Rename
way_of (comm rs) = Comm
way_of (allow ls) = Allow

abbrev pub way_words : (labels : List ℕ) (names : ℕ) → Operator → List ℕ
way_words labels names (block ns) = ns
way_words labels names (hide ns) = ns
way_words labels names (rename ps) = pair_words ps
way_words labels names (comm rs) = rules_for labels (rule_labels names rs)
way_words labels names (allow ls) = label_numbers ls

-- The labels of rules, as they are stored and as they are taken.
rules-exchanged : (n : ℕ) → n ≤ 24 → (rs : List Rule) → Each (LegalRule n) rs → exchange_labels (T.rule_words rs) ≡ rule_labels n rs
unfolding T.rule_words exchange_labels rule_labels
rules-exchanged n few [] h = refl
rules-exchanged n few (r ∷ rs) h =
    let w : number r.left % 2 ^ 60 % 2 ^ 60 + 2 ^ 60 * (number r.left / 2 ^ 60) ≡ number r.left = omega arith in
    rw (w, single-number n few r.right h.0.2, rules-exchanged n few rs h.1)

rule-list : (n : ℕ) → n ≤ 24 → (rs : List Rule) → length rs ≤ 8 → Each (LegalRule n) rs → rule_list (T.rule_words rs) ≡ rule_labels n rs
rule-list n few rs short h =
    ap exchange_labels (take_all 24 (T.rule_words rs) (omega (arith, length-rule_words rs))) ∙ rules-exchanged n few rs h

pub way_same : (n : ℕ) (op : Operator) → way_for (T.operator_for n op) ≡ way_of op
way_same n (block ns) = refl
way_same n (hide ns) = refl
way_same n (rename ps) = refl
way_same n (comm rs) = refl
way_same n (allow ls) = refl

module _ (d : Description) (lists : List ℕ) (stand : HoldsLists d lists) (n t : ℕ) (h : n < term_count d) (narrow : names d ≤ 24) where
  pub words_same : (labels : List ℕ) (op : Operator) → term_at d n ≡ wrap op t → LegalOperator (names d) op
      → words_for lists labels (T.operator_for n op) ≡ way_words labels (names d) op
  words_same labels (block ns) e l = list-stored d lists stand n h (block ns) e
  words_same labels (hide ns) e l = list-stored d lists stand n h (hide ns) e
  words_same labels (rename ps) e l = list-stored d lists stand n h (rename ps) e
  words_same labels (comm rs) e l =
      ap (rules_for labels) (ap rule_list (list-stored d lists stand n h (comm rs) e) ∙ rule-list (names d) narrow rs l.1 l.2)
  words_same labels (allow ls) e l = ap held (list-stored d lists stand n h (allow ls) e) ∙ held-in_words (label_numbers ls)
