-- Parts, labels, pairs, rules and the four lists: each is read back from its writing, and from nothing else.
-- Assumes nothing.
use mathlib.Core.Path.{◌≡◌, refl, sym, ap, ap₂, subst, ◌∙◌}
use mathlib.Core.Logic.Iff
use mathlib.Core.Bool.{Bool, true, false, ◌||◌, not}
use mathlib.Core.List.{List, [], ◌∷◌, ◌++◌, map, map-id}
use Prim.Native.Nat.{ℕ, ◌+◌, ◌≤◌, ◌<◌, zero-le}
use native.Mathlib.Omega.{arith}
use lib.Dec.{T, leb, eqb, eqb→eq}
use lib.ListN.{length, drop}
use Rattle.meaning.specs.Bytes.{Text, ascii}
use Rattle.meaning.specs.Labels as L
use Rattle.meaning.specs.Labels.{Label, size}
use Rattle.meaning.specs.Descriptions.{Rule}
use Rattle.meaning.specs.Legal.{Each, LegalLabel, LegalNames, LegalPair, LegalPairs, LegalRule, LegalRules, LegalLabels}
use Rattle.meaning.specs.Answers.{amount}
use Rattle.meaning.proofs.Bags.{size-plus, size-empty}
use Rattle.grammar.specs.Text.{past, Placed, placed, is_rest, is_digit, is_lower, literal, number, word, word_on, separated_on, separated}
use Rattle.grammar.specs.Forms.{Part, Parts, lf, comma, dot, colon, greater, part, label, word_list, pair, pair_list, rule, rule_list, label_list}
use Rattle.grammar.specs.Faults.{Found, worse, unless, items_from, items_fault, name_number, name_fault, label_said, actions, part_item, label_fault}
use Rattle.grammar.specs.Faults.{words_fault, pair_fault, pairs_fault, rule_fault, rules_fault, labels_fault, pair_said, rule_said}
use Rattle.grammar.specs.Marks.{decimal, joined_by, label_text}
use Rattle.grammar.specs.Writing.{name_text, pair_text, rule_text, list_text, labels_text, in_name, LegalWords}
use Rattle.grammar.proofs.Findings.{IsFine, fine-worse, fine-least}
use Rattle.grammar.proofs.Items.{weigh, weigh-alike, items-say}
use Rattle.grammar.proofs.Onwards.{T→true, rest→, rest-differs, literal→, when-past, when-weaken, when-branch}
use Rattle.grammar.proofs.Writes.{each_weaken, Stops, Reads, reads-by, Writes, writes-placed, writes_as, writes-narrow, writes-pair, writes_items}
use Rattle.grammar.proofs.Atoms.{known-says, itself, Small, writes-number, writes-name}
use Rattle.grammar.proofs.Entries.{Entry, entries_from, entry_text, label-entries, added, total, size-known}
use Rattle.grammar.proofs.Entries.{LegalEntry, LegalEntries, added-legal, entries-legal}

-- A part: a name and a count that is not 0.
writes-count : (from : ℕ) → Writes number itself (λ t. IsFine (unless (leb 1 t) amount from)) decimal (λ t. Small t × (1 ≤ t)) in_name
writes-count from =
    writes-narrow writes-number (λ t. 1 ≤ t) (λ t. let says = fine-least 1 t amount from in (λ f. (tt, says.0 f), λ h. says.1 h.1)) (λ t. Iff.rfl)

abbrev part_said : List Text → Part → Entry
part_said words p = record { name = name_number words p.name.it; times = p.times }

module _ (words : List Text) (legal : LegalWords words) where
  abbrev part_fault : ℕ → Part → Found
  part_fault from p = (part_item words from p).own

  writes-part : (from : ℕ) → Writes part (part_said words) (λ p. IsFine (part_fault from p)) (entry_text words) (LegalEntry (length words)) in_name
  unfolding part is_lower is_digit
  writes-part from =
      writes-pair (writes-name words legal) (writes-count from) colon tt
      (λ w n. record { name = w; times = n }) (λ e. e.name) (λ e. e.times)
      (λ w n. refl) (λ w n. refl) (λ y z p q. ap₂ (λ m n. record { name = m; times = n }) p q)
      (λ w n. fine-worse (name_fault words w) (unless (leb 1 n) amount from))

  -- what the parts say, and how many actions, goes by the entries
  label-added : (ps : Parts) → label_said words ps ≡ added (length words) (map (part_said words) ps)
  unfolding label_said added
  label-added [] = refl
  label-added (p ∷ ps) = ap (L.plus (L.several (length words) (name_number words p.name.it) p.times)) (label-added ps)

  actions-total : (ps : Parts) → actions ps ≡ total (map (part_said words) ps)
  unfolding actions weigh
  actions-total [] = refl
  actions-total (p ∷ ps) = let ih = actions-total ps in omega arith

  abbrev in_label : ℕ → Bool
  in_label b = in_name b || eqb dot b

  pub writes_label : (from : ℕ) → Writes label (label_said words) (λ ps. IsFine (label_fault words from ps)) (label_text words)
      (LegalLabel (length words)) in_label
  unfolding label_fault is_lower is_digit
  writes_label from =
      writes_as (writes_items (part_fault from) (writes-part from) dot tt (λ _. from) (λ e. e.name) (λ e. e.times) 31
      {Legal' = LegalEntries (length words)} (λ es. (λ h. ((h.0, h.1), (h.2, h.3)), λ k. (k.0.0, k.0.1, k.1.0, k.1.1))))
      (λ ps f. (
        f,
        λ l.
            let es = map (part_said words) ps in
            let h = added-legal (length words) es l in
            let same = ap (λ es. joined_by dot (map (entry_text words) es)) (sym h.1) ∙ sym (label-entries words (added (length words) es) h.0.0) in
            rw (label-added ps) (same, h.0),
      ))
      (λ a l.
      let h = entries-legal (length words) a l in
      (entries_from 0 a, h.0, sym (label-entries words a l.0), λ ps f e. (f, label-added ps ∙ ap (added (length words)) e ∙ h.1)))

  -- The left side of a rule has at least two actions.
  size-said : (from : ℕ) (ps : Parts) → Each (λ p. IsFine (part_fault from p)) ps → size (label_said words ps) ≡ actions ps
  unfolding label_said actions
  size-said from [] f = size-empty (length words)
  size-said from (p ∷ ps) f =
      let n = name_number words p.name.it in
      let h = (known-says words p.name).0 ((fine-worse (name_fault words p.name) (unless (leb 1 p.times) amount from)).0 f.0).0 in
      size-plus (L.several (length words) n p.times) (label_said words ps) ∙ ap₂ ◌+◌ (size-known (length words) n p.times h) (size-said from ps f.1)

  abbrev Joins : Label → Type 0
  Joins a = LegalLabel (length words) a × (2 ≤ size a)

  writes-left : (from : ℕ) → Writes label (label_said words) (λ ps. IsFine (worse (label_fault words from ps) (unless (leb 2 (actions ps)) amount from)))
      (label_text words) Joins in_label
  unfolding label_fault
  writes-left from =
      writes-narrow (writes_label from) (λ a. 2 ≤ size a)
      (λ ps.
      let sized : IsFine (label_fault words from ps) → size (label_said words ps) ≡ actions ps =
      λ f. size-said from ps ((items-say (part_said words) (part_fault from) (λ _. from) (λ e. e.name) (λ e. e.times) 31 ps).0 f).0 in (
        λ f. let k = simp (fine-worse, fine-least) at f in (k.0, let e = sized k.0 in omega (arith, k.1)),
        λ h. simp (fine-worse, fine-least) (h.0, let e = sized h.0 in omega (arith, h.1)),
      ))
      (λ a. Iff.rfl)

  -- Pairs and rules.
  writes-one-pair : Writes pair (pair_said words) (λ p. IsFine (pair_fault words p)) (pair_text words) (LegalPair (length words)) in_name
  unfolding pair is_lower is_digit
  writes-one-pair =
      writes-pair (writes-name words legal) (writes-name words legal) greater tt
      (λ a b. record { left = a; right = b }) (λ p. p.left) (λ p. p.right)
      (λ a b. refl) (λ a b. refl) (λ y z p q. ap₂ (λ m n. record { left = m; right = n }) p q) (λ a b. fine-worse (name_fault words a) (name_fault words b))

  abbrev OneRule : Rule → Type 0
  OneRule r = Joins r.left × (r.right < length words)

  writes-one-rule : (from : ℕ) → Writes rule (rule_said words) (λ r. IsFine (rule_fault words from r)) (rule_text words) OneRule in_name
  unfolding rule is_lower is_digit
  writes-one-rule from =
      writes-pair (writes-left from) (writes-name words legal) greater tt
      (λ a b. record { left = a; right = b }) (λ r. r.left) (λ r. r.right)
      (λ a b. refl) (λ a b. refl) (λ y z p q. ap₂ (λ m n. record { left = m; right = n }) p q)
      (λ ps b. fine-worse (worse (label_fault words from ps) (unless (leb 2 (actions ps)) amount from)) (name_fault words b))

  -- The lists.
  abbrev in_list : ℕ → Bool
  in_list b = in_name b || eqb comma b

  unlimited : {A : Type 0} (xs : List A) → weigh (λ _. 0) xs ≤ 0
  unlimited xs = omega (arith, weigh-alike 0 xs)

  pub writes-names : Writes word_list (map (λ w. name_number words w.it)) (λ ws. IsFine (words_fault words ws)) (list_text (name_text words))
      (LegalNames (length words)) in_list
  unfolding words_fault is_lower is_digit
  writes-names =
      writes_items (name_fault words) (writes-name words legal) comma tt (λ w. w.from) (λ n. n) (λ _. 0) 0
      (λ ns. (λ h. ((h.0, h.1), (rw map-id h.2, unlimited ns)), λ k. (k.0.0, k.0.1, rw map-id at k.1.0)))

  pub writes-pairs : Writes pair_list (map (λ p. pair_said words p.it)) (λ ps. IsFine (pairs_fault words ps)) (list_text (pair_text words))
      (LegalPairs (length words)) in_list
  unfolding pairs_fault is_lower is_digit
  writes-pairs =
      writes_items (λ p. pair_fault words p.it) (writes-placed (λ _. writes-one-pair)) comma tt (λ p. p.from) (λ p. p.left) (λ _. 0) 0
      (λ ps. (λ h. ((h.0, h.1), (h.2, unlimited ps)), λ k. (k.0.0, k.0.1, k.1.0)))

  pub writes-rules : Writes rule_list (map (λ r. rule_said words r.it)) (λ rs. IsFine (rules_fault words rs)) (list_text (rule_text words))
      (LegalRules (length words)) in_list
  unfolding rules_fault is_lower is_digit
  writes-rules =
      writes_items (λ r. rule_fault words r.from r.it) (writes-placed writes-one-rule) comma tt (λ r. r.from) (λ r. L.number r.left) (λ _. 1) 8
      (λ rs. let n = weigh-alike 1 rs in (
        λ h. ((h.0, each_weaken (LegalRule (length words)) OneRule rs (λ r g. ((g.0, g.1), g.2)) h.2), (h.3, omega (arith, h.1))),
        λ k. (k.0.0, omega (arith, k.1.1), each_weaken OneRule (LegalRule (length words)) rs (λ r g. (g.0.0, g.0.1, g.1)) k.0.1, k.1.0),
      ))

  abbrev SomeLabels : List Label → Type 0
  SomeLabels ls = (1 ≤ length ls) × LegalLabels (length words) ls

  abbrev in_labels : ℕ → Bool
  in_labels b = in_label b || eqb comma b

  abbrev labels_said : List (Placed Parts) → List Label
  labels_said ls = map (λ l. label_said words l.it) ls

  writes-some-labels : Writes (separated comma (placed label)) labels_said (λ ls. IsFine (labels_fault words ls)) (list_text (label_text words))
      SomeLabels in_labels
  unfolding labels_fault is_lower is_digit
  writes-some-labels =
      writes_items (λ l. label_fault words l.from l.it) (writes-placed writes_label) comma tt (λ l. l.from) L.number (λ _. 1) 32
      (λ ls. let n = weigh-alike 1 ls in (
        λ h. ((h.0, h.1.1), (h.1.2, omega (arith, h.1.0))),
        λ k. (k.0.0, (omega (arith, k.1.1), k.0.1, k.1.0)),
      ))

  -- LABELS may be `none`, which is no label, and is all that is left of the line; so what follows LABELS is the LF.
  abbrev in_line : ℕ → Bool
  in_line b = not (eqb lf b)

  line-left : (r : Text) → Stops in_line r → r ≡ lf ∷ drop 1 r
  line-left [] h = absurd h
  line-left (b ∷ r) h = ap {B = Text} (λ c. c ∷ r) (sym (eqb→eq lf b (twice (eqb lf b) h)))
    where
      twice : (t : Bool) → T (not (not t)) → T t
      twice true h = h
      twice false h = h

  some-text : (ls : List Label) → 1 ≤ length ls → list_text (label_text words) ls ≡ labels_text words ls
  some-text [] h = absurd (omega arith)
  some-text (a ∷ ls) h = refl

  none_stuck : (xs : List (Placed Parts)) (r q : Text) → separated comma (placed label) (ascii "none" ++ (lf ∷ q)) ≡ past xs r → ⊥
  unfolding separated_on part word word_on is_lower is_digit literal
  none_stuck xs r q e = let z : ◌≡◌ {A = ℕ} 0 1 = cc in omega arith

  labels-complete : (ls : List Label) → LegalLabels (length words) ls → (r : Text) → Stops in_line r
      → Reads label_list labels_said (λ xs. IsFine (labels_fault words xs)) ls (labels_text words ls ++ r) r
  unfolding label_list labels_fault items_fault items_from is_rest is_lower is_digit
  labels-complete [] l r h = record {
    value = [];
    faultless = tt;
    said = refl;
    reads = subst (λ t. label_list (ascii "none" ++ t) ≡ past [] t) (sym (line-left r h)) refl;
  }
  labels-complete (a ∷ ls) l r h =
      let c = writes-some-labels.complete (a ∷ ls) (omega arith, l) r (subst (Stops in_labels) (sym (line-left r h)) tt) in
      let some = rest-differs (separated comma (placed label)) (ascii "none") (labels_text words (a ∷ ls) ++ r) c.reads (none_stuck c.value r) in
      reads-by c (rw (some, label_list) c.reads)

  pub writes-labels : Writes label_list labels_said (λ ls. IsFine (labels_fault words ls)) (labels_text words) (LegalLabels (length words)) in_line
  unfolding label_list
  writes-labels = record {
    sound = λ s.
        when-branch (is_rest (ascii "none") s)
        (λ t. let none = (rest→ (ascii "none") s (T→true (is_rest (ascii "none") s) t)).0 in
        when-past (λ f. ((literal→ (ascii "none") s).holds tt (drop 4 s) none, (zero-le, tt, tt))))
        (λ _. when-weaken (writes-some-labels.sound s) (λ xs r h f.
        let k = h f in
        (k.0 ∙ ap (λ t. t ++ r) (some-text (labels_said xs) k.1.0), k.1.1)));
    complete = labels-complete;
  }
