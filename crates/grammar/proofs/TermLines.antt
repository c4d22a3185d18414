-- Term lines and the order's line: each is read back from its writing, and from nothing else.
-- Assumes nothing.
use mathlib.Core.Path.{◌≡◌, refl, sym, ap, subst, ◌∙◌}
use mathlib.Core.Logic.Iff
use mathlib.Core.Logic.{◌↔◌}
use mathlib.Core.Bool.{Bool, true, false, ◌&&◌, ◌||◌, not}
use mathlib.Core.List.{List, [], ◌∷◌, ◌++◌, append_assoc}
use Prim.Native.Nat.{ℕ, zero, suc, ◌<◌}
use native.Mathlib.Omega.{arith}
use lib.Dec.{T, ltb, eqb, ltb→lt}
use lib.ListN.{length, drop}
use Rattle.meaning.specs.Bytes.{Text, ascii}
use Rattle.meaning.specs.Descriptions as D
use Rattle.meaning.specs.Descriptions.{Operator, block, hide, rename, comm, allow, Term, act, tau, delta, ref, sum}
use Rattle.meaning.specs.Descriptions.{cond, choice, ifelse, seq, merge, lmerge, sync, wrap, Order}
use Rattle.meaning.specs.Legal.{LegalLabels, LegalOperator, LegalOrder}
use Rattle.meaning.proofs.Tests.{and_left, and_right}
use Rattle.grammar.specs.Text.{Past, past, stuck, onward, lf, ended, is_rest, literal, word, word_on, separated_on, is_lower, is_digit}
use Rattle.grammar.specs.Forms as F
use Rattle.grammar.specs.Forms.{space, Listed, Places, Line, plain, acts, wraps, OrderLine, part, Kind, kinds, label_list, alone}
use Rattle.grammar.specs.Forms.{operand, of_name, of_last, of_one, of_two, of_list, farther, of_kind, term_line, order_line}
use Rattle.grammar.specs.Faults.{term_said, words_of_fault, operator_said, list_fault, order_said, order_fault}
use Rattle.grammar.specs.Marks.{decimal}
use Rattle.grammar.specs.Writing.{name_text, labels_text, after, two, with_list, term_text, order_text, line_before, in_name, LegalWords}
use Rattle.grammar.proofs.Findings.{IsFine}
use Rattle.grammar.proofs.Onwards.{rest-line, rest-differs, When, when-past, when-stuck, when-weaken, when-branch}
use Rattle.grammar.proofs.Onwards.{onward→, literal→, literal←}
use Rattle.grammar.proofs.Writes.{reads-by, reads-after, Writes, writes-placed, writes-after}
use Rattle.grammar.proofs.Atoms.{AsIs, Small, writes-number, writes-name}
use Rattle.grammar.proofs.ListForms.{writes-names, writes-pairs, writes-rules, writes-labels}
use Rattle.grammar.proofs.LineForms.{ReadsLine, Made, WritesLine, line-ended, line_after, line_first}

-- What a term line may say: numbers of at most two digits, known names and legal lists.
abbrev pub SmallTwo : ℕ → ℕ → Type 0
SmallTwo t u = Small t × Small u

abbrev pub Sayable : ℕ → Term → Type 0
Sayable names =
    elim [
      | act a ↦ a < names
      | tau ↦ Unit {0}
      | delta ↦ Unit {0}
      | ref e ↦ Small e
      | sum t ↦ Small t
      | cond t ↦ Small t
      | choice t u ↦ SmallTwo t u
      | ifelse t u ↦ SmallTwo t u
      | seq t u ↦ SmallTwo t u
      | merge t u ↦ SmallTwo t u
      | lmerge t u ↦ SmallTwo t u
      | sync t u ↦ SmallTwo t u
      | wrap o t ↦ Small t × LegalOperator names o
    ]

-- Two words of which neither begins with the other, the n-th kind, and that no kind before it has a word that begins like its own.
clash : Text → Text → Bool
clash [] w = false
clash (b ∷ v) [] = false
clash (b ∷ v) (c ∷ w) = not (eqb b c) || clash v w

clash-stuck : (v w t : Text) → T (clash v w) → (r : Text) × (literal v (w ++ t) ≡ stuck r)
unfolding clash literal
clash-stuck [] w t h = absurd h
clash-stuck (b ∷ v) [] t h = absurd h
clash-stuck (b ∷ v) (c ∷ w) t h = go (eqb b c) h (clash-stuck v w t)
  where
    go : (e : Bool) → T (not e || clash v w) → (T (clash v w) → (r : Text) × (literal v (w ++ t) ≡ stuck r))
        → (r : Text) × (◌≡◌ {A = Past (Unit {0})} (elim e as (λ _. Past (Unit {0})) [ true ↦ literal v (w ++ t) | false ↦ stuck (c ∷ (w ++ t)) ]) (stuck r))
    go true h more = more h
    go false h more = (c ∷ (w ++ t), refl)

kind_at : List Kind → ℕ → Kind
kind_at [] n = record { word = []; rest = stuck }
kind_at (k ∷ ks) zero = k
kind_at (k ∷ ks) (suc n) = kind_at ks n

apart : List Kind → ℕ → Bool
apart [] n = false
apart (k ∷ ks) zero = true
apart (k ∷ ks) (suc n) = clash k.word (kind_at ks n).word && apart ks n

-- A row of some table for each kind.
data Rows (Row : Kind → Type 1) : List Kind → Type 1 where
  no_rows : Rows Row []
  ◌⨾◌ : {k : Kind} {ks : List Kind} → Row k → Rows Row ks → Rows Row (k ∷ ks)

infixr 30 ◌⨾◌
row_at : {Row : Kind → Type 1} {ks : List Kind} → Rows Row ks → (n : ℕ) → n < length ks → Row (kind_at ks n)
unfolding kind_at
row_at no_rows n h = absurd (omega arith)
row_at (w ⨾ ws) zero h = w
row_at (w ⨾ ws) (suc n) h = row_at ws n (omega arith)

-- What follows a kind's word.
module _ (words : List Text) (legal : LegalWords words) where
  abbrev Follows : {Y : Type 0} → (Text → Past Line) → (Y → Term) → (Y → Text) → (Y → Type 0) → Type 0
  Follows rest build text Legal = WritesLine rest (term_said words) (words_of_fault words) build text Legal

  follows-alone : (t : Term) → Follows {Y = Unit {0}} (alone t) (λ _. t) (λ _. []) (λ _. Unit {0})
  unfolding alone words_of_fault
  follows-alone t = record {
    sound = λ s. onward→ (literal→ (lf ∷ []) s) (λ _ r e. when-past (λ f. record { source = tt; builds = refl; writes = e; legal = tt }));
    complete = λ y l r. reads-after (lf ∷ []) (record { value = plain t (record { first = 0; second = 0 }); faultless = tt; said = refl; reads = refl });
  }

  follows-name : Follows of_name act (λ a. after (name_text words a)) (λ a. a < length words)
  unfolding of_name words_of_fault is_lower is_digit
  follows-name = line_after (space ∷ []) (line-ended (writes-name words legal) tt acts (words_of_fault words) act (λ w. refl) (λ w. Iff.rfl))

  writes-operand : Writes operand (λ t. t.it) AsIs (λ t. after (decimal t)) Small in_name
  writes-operand = writes-after (writes-placed (λ _. writes-number)) (space ∷ [])

  follows-last : (make : ℕ → Term) (at : ℕ → Places) → Follows (of_last make at) make (λ t. after (decimal t)) Small
  unfolding of_last words_of_fault is_lower is_digit
  follows-last make at =
      line-ended writes-operand tt (λ t. plain (make t.it) (at t.from)) (words_of_fault words) make (λ t. refl) (λ t. Iff.rfl)

  follows-one : (make : ℕ → Term) → Follows (of_one make) make (λ t. after (decimal t)) Small
  follows-one make = follows-last make (λ from. record { first = from; second = from })

  follows-two : (make : ℕ → ℕ → Term) → Follows {Y = ℕ × ℕ} (of_two make) (λ p. make p.0 p.1) (λ p. two p.0 p.1) (λ p. SmallTwo p.0 p.1)
  unfolding of_two is_lower is_digit
  follows-two make = line_first make writes-operand (λ t. follows-last (make t.it) (λ from. record { first = t.from; second = from })) (λ u r. tt)

  follows-list : {X Y : Type 0} {list : Text → Past X} {says : X → Y} {Fine : X → Type 0} {text : Y → Text} {Legal : Y → Type 0} {goes : ℕ → Bool}
      → Writes list says Fine text Legal goes → T (not (goes lf)) → (make : X → Listed) (operator : Y → Operator)
      → ((x : X) → operator_said words (make x) ≡ operator (says x)) → ((x : X) → IsFine (list_fault words (make x)) ↔ Fine x)
      → Follows {Y = ℕ × Y} (of_list list make) (λ p. wrap (operator p.1) p.0) (λ p. with_list p.0 (text p.1)) (λ p. Small p.0 × Legal p.1)
  unfolding of_list words_of_fault is_lower is_digit
  follows-list w ends make operator same faults =
      line_first (λ t y. wrap (operator y) t) writes-operand
      (λ t. line_after (space ∷ []) (line-ended w ends (λ l. wraps (make l) t) (words_of_fault words)
      (λ y. wrap (operator y) t.it) (λ x. ap (λ o. wrap o t.it) (same x)) faults))
      (λ y r. tt)

  -- What the line of a kind says: one row for each kind.
  record Row (k : Kind) : Type 1 where
    Operands : Type 0
    build : Operands → Term
    text : Operands → Text
    Fit : Operands → Type 0
    follows : Follows k.rest build text Fit
    same : (y : Operands) → term_text words (build y) ≡ k.word ++ text y
    sayable : (y : Operands) → Fit y → Sayable (length words) (build y)

  row : {Y : Type 0} {k : Kind} {build : Y → Term} {text : Y → Text} {Fit : Y → Type 0} → Follows k.rest build text Fit
      → ((y : Y) → term_text words (build y) ≡ k.word ++ text y) → ((y : Y) → Fit y → Sayable (length words) (build y)) → Row k
  row {Y} {build} {text} {Fit} f same sayable = record { Operands = Y; build = build; text = text; Fit = Fit; follows = f; same = same; sayable = sayable }

  rows : Rows Row kinds
  unfolding kinds row is_lower is_digit
  rows =
      row (follows-alone delta) (λ y. refl) (λ y l. l)
      ⨾ row (follows-alone tau) (λ y. refl) (λ y l. l)
      ⨾ row follows-name (λ y. refl) (λ y l. l)
      ⨾ row (follows-one ref) (λ y. refl) (λ y l. l)
      ⨾ row (follows-one sum) (λ y. refl) (λ y l. l)
      ⨾ row (follows-one cond) (λ y. refl) (λ y l. l)
      ⨾ row (follows-two choice) (λ y. refl) (λ y l. l)
      ⨾ row (follows-two ifelse) (λ y. refl) (λ y l. l)
      ⨾ row (follows-two seq) (λ y. refl) (λ y l. l)
      ⨾ row (follows-two merge) (λ y. refl) (λ y l. l)
      ⨾ row (follows-two lmerge) (λ y. refl) (λ y l. l)
      ⨾ row (follows-two sync) (λ y. refl) (λ y l. l)
      ⨾ row (follows-list (writes-names words legal) tt F.block block (λ x. refl) (λ x. Iff.rfl)) (λ y. refl) (λ y l. l)
      ⨾ row (follows-list (writes-names words legal) tt F.hide hide (λ x. refl) (λ x. Iff.rfl)) (λ y. refl) (λ y l. l)
      ⨾ row (follows-list (writes-pairs words legal) tt F.rename rename (λ x. refl) (λ x. Iff.rfl)) (λ y. refl) (λ y l. l)
      ⨾ row (follows-list (writes-rules words legal) tt F.comm comm (λ x. refl) (λ x. Iff.rfl)) (λ y. refl) (λ y l. l)
      ⨾ row (follows-list (writes-labels words legal) tt F.allow allow (λ x. refl) (λ x. Iff.rfl)) (λ y. refl) (λ y l. l)
      ⨾ no_rows

  -- A kind that was read is one of those in the list, so what its row says holds.
  abbrev Says : Text → Line → Text → Type 0
  Says s l r = IsFine (words_of_fault words l) → Made (λ t. t) (λ t. line_before (term_text words t) r) (Sayable (length words)) (term_said words l) s

  row_line : (k : Kind) (w : Row k) (y : w.Operands) (r : Text) → line_before (term_text words (w.build y)) r ≡ k.word ++ line_before (w.text y) r
  row_line k w y r = rw (w.same y) (append_assoc k.word (w.text y) (lf ∷ r))

  kind-says : (k : Kind) → Row k → (t : Text) → When (k.rest t) (Says (k.word ++ t))
  kind-says k w t =
      when-weaken (w.follows.sound t) (λ l r h g.
      let m = h g in
      record {
        source = w.build m.source;
        builds = m.builds;
        writes = ap (λ u. k.word ++ u) m.writes ∙ sym (row_line k w m.source r);
        legal = w.sayable m.source m.legal;
      })

  kinds-say : (ks : List Kind) → Rows Row ks → (s : Text) → When (of_kind ks s) (Says s)
  unfolding of_kind
  kinds-say [] ws s = when-stuck
  kinds-say (k ∷ ks) (w ⨾ ws) s = go (literal k.word s) (literal→ k.word s) (kinds-say ks ws s)
    where
      passed_on : (r : Text) (m : Past Line) → When m (Says s) → When (farther r m) (Says s)
      passed_on r (past l q) h = h
      passed_on r (stuck q) h = when-stuck

      go : (m : Past (Unit {0})) → When m (λ _ r. s ≡ k.word ++ r) → When (of_kind ks s) (Says s)
          → When (elim m as (λ _. Past Line) [ past _ r ↦ k.rest r | stuck r ↦ farther r (of_kind ks s) ]) (Says s)
      go (past u r) h more = subst (λ t. When (k.rest r) (Says t)) (sym (h.holds u r refl)) (kind-says k w r)
      go (stuck r) h more = passed_on r (of_kind ks s) more

  -- The other way round a kind's line is found, since no kind's word begins like another's.
  found : (ks : List Kind) (n : ℕ) (t : Text) (l : Line) (r : Text) → T (apart ks n)
      → (kind_at ks n).rest t ≡ past l r → of_kind ks ((kind_at ks n).word ++ t) ≡ past l r
  unfolding of_kind apart kind_at
  found [] n t l r h e = absurd h
  found (k ∷ ks) zero t l r h e = rw (literal← k.word t, of_kind) e
  found (k ∷ ks) (suc n) t l r h e =
      let v = (kind_at ks n).word in
      let c = clash-stuck k.word v t (and_left (clash k.word v) (apart ks n) h) in
      rw (c.1, of_kind) (rw (found ks n t l r (and_right (clash k.word v) (apart ks n) h) e))

  abbrev Shown : Term → Type 0
  Shown = ReadsLine (of_kind kinds) (term_said words) (words_of_fault words) (λ u. u) (term_text words)

  abbrev row_of : (n : ℕ) → T (ltb n (length kinds)) → Row (kind_at kinds n)
  row_of n h = row_at rows n (ltb→lt n (length kinds) h)

  shown_by : (n : ℕ) (h : T (ltb n (length kinds))) → T (apart kinds n) → (y : (row_of n h).Operands) → (row_of n h).Fit y → Shown ((row_of n h).build y)
  shown_by n h first y l r =
      let w = row_of n h in
      let c = w.follows.complete y l r in
      reads-by c (rw (row_line (kind_at kinds n) w y r) (found kinds n (line_before (w.text y) r) c.value r first c.reads))

  shown : (t : Term) → Sayable (length words) t → Shown t
  unfolding kinds apart clash kind_at row_at rows row
  shown delta l = shown_by 0 tt tt tt l
  shown tau l = shown_by 1 tt tt tt l
  shown (act a) l = shown_by 2 tt tt a l
  shown (ref e) l = shown_by 3 tt tt e l
  shown (sum t) l = shown_by 4 tt tt t l
  shown (cond t) l = shown_by 5 tt tt t l
  shown (choice t u) l = shown_by 6 tt tt (t, u) l
  shown (ifelse t u) l = shown_by 7 tt tt (t, u) l
  shown (seq t u) l = shown_by 8 tt tt (t, u) l
  shown (merge t u) l = shown_by 9 tt tt (t, u) l
  shown (lmerge t u) l = shown_by 10 tt tt (t, u) l
  shown (sync t u) l = shown_by 11 tt tt (t, u) l
  shown (wrap (block ns) t) l = shown_by 12 tt tt (t, ns) l
  shown (wrap (hide ns) t) l = shown_by 13 tt tt (t, ns) l
  shown (wrap (rename ps) t) l = shown_by 14 tt tt (t, ps) l
  shown (wrap (comm rs) t) l = shown_by 15 tt tt (t, rs) l
  shown (wrap (allow ls) t) l = shown_by 16 tt tt (t, ls) l

  pub writes-term : WritesLine term_line (term_said words) (words_of_fault words) (λ t. t) (λ t. ascii "term=" ++ term_text words t) (Sayable (length words))
  unfolding term_line
  writes-term = line_after (ascii "term=") (record { sound = kinds-say kinds rows; complete = shown })

  -- The order: `all`, or LABELS.
  abbrev only-line : Text → Past OrderLine
  only-line r = onward (label_list r) (λ ls q. onward (ended q) (λ _ p. past (F.only ls) p))

  all-stuck : (l : OrderLine) (r q : Text) → only-line (ascii "all" ++ (lf ∷ q)) ≡ past l r → ⊥
  unfolding label_list is_rest separated_on part word word_on is_lower is_digit literal
  all-stuck l r q e = let z : ◌≡◌ {A = ℕ} 0 1 = cc in omega arith

  writes-only : WritesLine only-line (order_said words) (order_fault words) D.only (labels_text words) (LegalLabels (length words))
  unfolding order_fault
  writes-only = line-ended (writes-labels words legal) tt F.only (order_fault words) D.only (λ x. refl) (λ x. Iff.rfl)

  abbrev after-key : Text → Past OrderLine
  after-key s = elim (is_rest (ascii "all") s) [ true ↦ past F.all (drop 4 s) | false ↦ only-line s ]

  order-complete : (o : Order) → LegalOrder (length words) o → ReadsLine after-key (order_said words) (order_fault words) (λ o. o) (order_text words) o
  unfolding order_fault is_rest
  order-complete D.all l r = record { value = F.all; faultless = tt; said = refl; reads = refl }
  order-complete (D.only ls) l r =
      let c = writes-only.complete ls l r in
      let line = line_before (labels_text words ls) r in
      reads-by c (rw (rest-differs only-line (ascii "all") line c.reads (all-stuck c.value r), after-key) c.reads)

  pub writes-order : WritesLine order_line (order_said words) (order_fault words) (λ o. o) (λ o. ascii "order=" ++ order_text words o)
      (LegalOrder (length words))
  unfolding order_line order_fault
  writes-order = line_after (ascii "order=") (record {
    sound = λ s. when-branch (is_rest (ascii "all") s)
        (λ t. when-past (λ f. record { source = D.all; builds = refl; writes = rest-line (ascii "all") s t; legal = tt }))
        (λ _. when-weaken (writes-only.sound s) (λ x r h f.
        let m = h f in
        record { source = D.only m.source; builds = m.builds; writes = m.writes; legal = m.legal }));
    complete = order-complete;
  })
