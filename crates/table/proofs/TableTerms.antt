-- A table and the lists that hold a legal description stand for it: each slot, with its list, is the description's term.
-- Assumes nothing.
use mathlib.Core.Path.{◌≡◌, refl, sym, ap, ap₂, ◌∙◌}
use mathlib.Core.List.{List, [], ◌∷◌, map}
use Prim.Native.Nat.{ℕ, ◌+◌, ◌*◌, ◌/◌, ◌%◌, ◌^◌, ◌≤◌, ◌<◌}
use native.Mathlib.Nat.{mul-one}
use native.Mathlib.Omega.{arith}
use lib.ListN.{length, get_or, take, drop, length-map}
use Rattle.meaning.specs.Labels.{Label, number, label_of}
use Rattle.meaning.specs.Descriptions as D
use Rattle.meaning.specs.Legal.{Each, Legal, LegalLabel, LegalPair, LegalRule, LegalOperator, LegalTerm}
use Rattle.meaning.proofs.Digits.{size→small, label_of-number}
use Rattle.meaning.proofs.Least.{term-legal}
use Rattle.areas.specs.Pairs.{pairs_in}
use Rattle.areas.specs.Rows.{held}
use Rattle.areas.proofs.Held.{held-in_words, length-in_words}
use Rattle.areas.proofs.Entries.{pairs_in-pair_words}
use Rattle.slots.specs.Packing.{word_term}
use Rattle.table.specs.Encoded.{rule_words, operator_words, term_words, operator_for, term_for, slot_of}
use Rattle.table.specs.Encoded as E
use Rattle.table.specs.Decoded.{list_in, rules_of, operator_of, term_of}
use Rattle.table.specs.Holding.{HoldsLists}
use Rattle.table.proofs.Holdings.{term_of_lem}

-- Entries that are read as they were stored.
label-back : {names : ℕ} (a : Label) → LegalLabel names a → label_of names (number a) ≡ a
label-back a h = ap (λ (m : ℕ). label_of m (number a)) (sym h.0) ∙ label_of-number a (size→small a h.2)

labels-back : (names : ℕ) (ls : List Label) → Each (LegalLabel names) ls → map (label_of names) (map number ls) ≡ ls
labels-back names [] h = refl
labels-back names (a ∷ ls) h = ap₂ {C = List Label} ◌∷◌ (label-back a h.0) (labels-back names ls h.1)

rules-back : (names : ℕ) (rs : List D.Rule) → Each (LegalRule names) rs → rules_of names (rule_words rs) ≡ rs
unfolding rules_of rule_words
rules-back names [] h = refl
rules-back names (r ∷ rs) h =
    let n = number r.left in
    let whole : n % 2 ^ 60 % 2 ^ 60 + 2 ^ 60 * (n / 2 ^ 60) ≡ n = omega arith in
    ap₂ {C = List D.Rule} (λ (a : Label) (l : List D.Rule). record { left = a; right = r.right } ∷ l)
    (ap (label_of names) whole ∙ label-back r.left h.0.0) (rules-back names rs h.1)

lefts-small : {names : ℕ} (ps : List D.Pair) → names ≤ 24 → Each (LegalPair names) ps → Each (λ p. p.left < 32) ps
lefts-small [] few h = tt
lefts-small (p ∷ ps) few h = (omega (arith, h.0.0), lefts-small ps few h.1)

pub length-rule_words : (rs : List D.Rule) → length (rule_words rs) ≡ length rs * 3
unfolding rule_words
length-rule_words [] = refl
length-rule_words (r ∷ rs) = omega (arith, length-rule_words rs)

module _ (d : D.Description) (lists : List ℕ) (stand : HoldsLists d lists) (n : ℕ) (h : n < D.term_count d) where
  -- The list of an operator, whose entries take so many words each.
  module _ {t : ℕ} where
    stored : (op : D.Operator) (size entries : ℕ) → D.term_at d n ≡ D.wrap op t → length (operator_words op) ≡ entries * size
        → take (entries * size) (drop (64 * n) lists) ≡ operator_words op
    stored op size entries e l =
        ap (λ (m : ℕ). take m (drop (64 * n) lists)) (sym (ap (λ (x : D.Term). length (term_words x)) e ∙ l)) ∙ stand n h ∙ ap term_words e

    pub list-stored : (op : D.Operator) → D.term_at d n ≡ D.wrap op t → list_in lists (operator_for n op) ≡ operator_words op
    list-stored (D.block ns) e = stored (D.block ns) 1 (length ns) e (sym (mul-one (length ns)))
    list-stored (D.hide ns) e = stored (D.hide ns) 1 (length ns) e (sym (mul-one (length ns)))
    list-stored (D.rename ps) e = stored (D.rename ps) 1 (length ps) e (length-map ps E.pair_word ∙ sym (mul-one (length ps)))
    list-stored (D.comm rs) e = stored (D.comm rs) 3 (length rs) e (length-rule_words rs)
    list-stored (D.allow ls) e = stored (D.allow ls) 2 (length ls) e (omega (arith, length-in_words (map number ls), length-map ls number))

    module _ (narrow : D.names d ≤ 24) where
      operator-decoded : (op : D.Operator) → D.term_at d n ≡ D.wrap op t → LegalOperator (D.names d) op
          → operator_of (D.names d) lists (operator_for n op) ≡ op
      operator-decoded (D.block ns) e l = ap D.block (list-stored (D.block ns) e)
      operator-decoded (D.hide ns) e l = ap D.hide (list-stored (D.hide ns) e)
      operator-decoded (D.rename ps) e l =
          ap (λ (ws : List ℕ). D.rename (pairs_in ws)) (list-stored (D.rename ps) e) ∙ ap D.rename (pairs_in-pair_words ps (lefts-small ps narrow l.1))
      operator-decoded (D.comm rs) e l =
          ap (λ (ws : List ℕ). D.comm (rules_of (D.names d) ws)) (list-stored (D.comm rs) e) ∙ ap D.comm (rules-back (D.names d) rs l.2)
      operator-decoded (D.allow ls) e l =
          ap (λ (ws : List ℕ). D.allow (map (label_of (D.names d)) ws)) (ap held (list-stored (D.allow ls) e) ∙ held-in_words (map number ls))
          ∙ ap D.allow (labels-back (D.names d) ls l.1)

  term-decoded : (x : D.Term) → D.names d ≤ 24 → D.term_at d n ≡ x → LegalTerm d n x → term_of (D.names d) lists (term_for n x) ≡ x
  term-decoded (D.act a) narrow e l = refl
  term-decoded D.tau narrow e l = refl
  term-decoded D.delta narrow e l = refl
  term-decoded (D.ref q) narrow e l = refl
  term-decoded (D.sum t) narrow e l = refl
  term-decoded (D.cond t) narrow e l = refl
  term-decoded (D.choice t u) narrow e l = refl
  term-decoded (D.ifelse t u) narrow e l = refl
  term-decoded (D.seq t u) narrow e l = refl
  term-decoded (D.merge t u) narrow e l = refl
  term-decoded (D.lmerge t u) narrow e l = refl
  term-decoded (D.sync t u) narrow e l = refl
  term-decoded (D.wrap op t) narrow e l = ap (λ (q : D.Operator). D.wrap q t) (operator-decoded narrow op e l.1)

pub decoded : (d : D.Description) (o : D.Order) (lists : List ℕ) → Legal d o → HoldsLists d lists → (n : ℕ) → n < D.term_count d
    → term_of (D.names d) lists (word_term n (get_or (map slot_of d.terms) n 0)) ≡ D.term_at d n
decoded d o lists legal stand n h =
    ap (term_of (D.names d) lists) (term_of_lem d o n legal h)
    ∙ term-decoded d lists stand n h (D.term_at d n) legal.name_count.1 refl (term-legal d o legal n)
