-- The parts of a label: its number and its faults from what its parts say.
-- Assumes nothing.
use mathlib.Core.Path.{◌≡◌, refl, sym, ap, ap₂, ◌∙◌}
use mathlib.Core.Bool.{Bool, true, false}
use mathlib.Core.List.{List, [], ◌∷◌, ◌++◌, map}
use Prim.Native.Nat.{ℕ, suc, ◌+◌, ◌*◌, ◌-◌, ◌^◌, ◌≤◌, ◌<◌, min, zero-le}
use native.Mathlib.Nat.{mul-le-mul_left, pow-le-pow_right, le_of_suc-le-suc}
use native.Mathlib.Omega.{arith}
use lib.Dec.{leb, ltb, eqb, lit<, leb→le}
use lib.ListN.{length}
use borrow.Author.Tests.{ltb-true}
use Rattle.meaning.specs.Bytes.{Text}
use Rattle.meaning.specs.Labels.{several}
use Rattle.meaning.specs.Legal.{Each}
use Rattle.meaning.specs.Answers.{name, amount}
use Rattle.meaning.proofs.Tests.{and_right}
use Rattle.meaning.proofs.Bags.{number-plus}
use Rattle.grammar.specs.Text.{Past, past, stuck, onward, Placed, placed, same_text, byte, is_digit, second_digit, number, word, separated}
use Rattle.grammar.specs.Forms.{Part, Parts, part, label, colon, dot}
use Rattle.grammar.specs.Faults.{Found, fine, fault, worse, unless, items_fault, part_item}
use Rattle.grammar.specs.Faults.{name_number, name_fault, label_said, actions, label_fault, number_said}
use Rattle.labels.proofs.Words.{number-empty, number-several}
use Rattle.faults.proofs.Ranks.{worse-none, unless-none}
use Rattle.lists.specs.Tallies.{Said, item_of, all_faults}
use Rattle.lists.specs.Entries.{seen, part_said, name_entry, unless_faulty, label_entry, Room}
use Rattle.lists.proofs.Items.{weight_of, items-fine, items-within}
use Rattle.lists.proofs.Tallied.{weight-snoc, said-faults, all_snoc}
use Rattle.lists.proofs.Seen.{said_same, placed-seen}
use Rattle.lists.proofs.Gathered.{gathered}

-- What a label's number is made of.
unfoldable pub number_of : List Said → ℕ
number_of [] = 0
number_of (e ∷ es) = e.second * 32 ^ e.first + number_of es

pub number-snoc : (es : List Said) (e : Said) → number_of (es ++ (e ∷ [])) ≡ number_of es + e.second * 32 ^ e.first
unfolding number_of
number-snoc [] e = omega arith
number-snoc (d ∷ es) e = let ih = number-snoc es e in omega arith

number_bound : (es : List Said) → Each (λ e. e.first < 24) es → number_of es ≤ weight_of (λ e. e.second) es * 32 ^ 23
unfolding number_of weight_of
number_bound [] h = zero-le
number_bound (e ∷ es) h =
    let p : 32 ^ e.first ≤ 32 ^ 23 = pow-le-pow_right (lit< tt) (le_of_suc-le-suc h.0) in
    let q : e.second * 32 ^ e.first ≤ e.second * 32 ^ 23 = mul-le-mul_left e.second p in
    let ih = number_bound es h.1 in
    omega arith

-- A part as it is read: its name's number is at most 24, and below where the name is known; its count has two digits.
pub record Known (e : Said) : Type 0 where
  pub low : e.first ≤ 24
  pub known : e.found ≡ fine → e.first < 24
  pub few : e.second ≤ 99

-- where its name is known, a part's number is below 24
abbrev Below : Said → Type 0
Below e = e.found ≡ fine → e.first < 24

all-below : (es : List Said) → Each Below es → Each (λ e. e.found ≡ fine) es → Each (λ e. e.first < 24) es
all-below [] k f = tt
all-below (e ∷ es) k f = (k.0 f.0, all-below es k.1 f.1)

each_below : (es : List Said) → Each Known es → Each Below es
each_below [] k = tt
each_below (e ∷ es) k = (k.0.known, each_below es k.1)

pub each_snoc : (P : Said → Type 0) (es : List Said) (e : Said) → Each P es → P e → Each P (es ++ (e ∷ []))
each_snoc P [] e ps p = (p, tt)
each_snoc P (d ∷ es) e ps p = (ps.0, each_snoc P es e ps.1 p)

-- The faults of the parts so far of the entry at a place, and their number where they have none.
abbrev pub sizes : Said → ℕ
sizes e = e.second

abbrev pub parts_fault : (entry : ℕ) → List Said → Found
parts_fault entry es = all_faults sizes (λ e. entry) 31 es

abbrev pub parts_number : (entry : ℕ) → List Said → ℕ
parts_number entry es = unless_faulty (parts_fault entry es) (number_of es)

parts-few : (entry : ℕ) (es : List Said) → parts_fault entry es ≡ fine → weight_of sizes es ≤ 31
unfolding all_faults items_fault
parts-few entry es f = omega (arith, items-within (item_of sizes (λ e. entry)) 31 0 0 es (omega arith) f)

number_small : (entry : ℕ) (es : List Said) → Each Below es → parts_fault entry es ≡ fine → number_of es < 2 ^ 120
unfolding all_faults items_fault
number_small entry es k f =
    let item = item_of sizes (λ e. entry) in
    let w = parts-few entry es f in
    let b = number_bound es (all-below es k (items-fine item 31 0 0 es f)) in
    omega arith

nothing : (f : Found) → 0 ≡ unless_faulty f 0
nothing fine = refl
nothing (fault f from) = refl

pub parts_none : (entry : ℕ) → 0 ≡ parts_number entry []
unfolding number_of
parts_none entry = nothing (parts_fault entry [])

abbrev pub parts_entry : (entry : ℕ) → List Said → Said
parts_entry entry es = record { found = parts_fault entry es; first = parts_number entry es; second = min 32 (weight_of sizes es); from = entry }

module _ (entry : ℕ) (es : List Said) (e : Said) (ks : Each Known es) (k : Known e) (number : ℕ) (h : number ≡ parts_number entry es) where
  before : parts_fault entry (es ++ (e ∷ [])) ≡ fine → (number ≡ number_of es) × (e.found ≡ fine)
  before f =
      let s = worse-none (worse (parts_fault entry es) e.found) _ (sym (all_snoc sizes (λ e. entry) 31 es e) ∙ f) in
      let p = worse-none (parts_fault entry es) e.found s.0 in
      (h ∙ ap (λ x. unless_faulty x (number_of es)) p.0, p.1)

  room_of : (x : Found) → x ≡ parts_fault entry (es ++ (e ∷ [])) → Room x number e.first e.second
  room_of fine f =
      let b = before (sym f) in
      let s = number_small entry (es ++ (e ∷ [])) (each_below (es ++ (e ∷ [])) (each_snoc Known es e ks k)) (sym f) in
      let w = parts-few entry (es ++ (e ∷ [])) (sym f) in
      (k.known b.1, omega (arith, weight-snoc sizes es e), omega (arith, number-snoc es e, b.0))
  room_of (fault x p) f = tt

  pub room_for : {x : Found} → x ≡ parts_fault entry (es ++ (e ∷ [])) → Room x number e.first e.second
  room_for {x} f = room_of x f

  sum_of : (x : Found) → x ≡ parts_fault entry (es ++ (e ∷ []))
      → unless_faulty x (number + e.second * 32 ^ e.first) ≡ unless_faulty x (number_of (es ++ (e ∷ [])))
  sum_of fine f = let b = before (sym f) in omega (arith, number-snoc es e, b.0)
  sum_of (fault x p) f = refl

  pub sum_more : {x : Found} {r : ℕ}
      → x ≡ parts_fault entry (es ++ (e ∷ []))
      → r ≡ unless_faulty x (number + e.second * 32 ^ e.first)
      → r ≡ parts_number entry (es ++ (e ∷ []))
  sum_more {x} {r} f g = g ∙ sum_of x f ∙ ap (λ y. unless_faulty y (number_of (es ++ (e ∷ [])))) f

-- A number as it is read has two digits at most.
abbrev SmallPast : Past ℕ → Type 0
SmallPast (past n r) = n ≤ 99
SmallPast (stuck r) = Unit {0}

digit-high : (b : ℕ) → is_digit b ≡ true → b ≤ 57
unfolding is_digit
digit-high b e = leb→le b 57 (and_right (leb 48 b) (leb b 57) (rw e tt))

second-small : (n : ℕ) (s : Text) → n ≤ 9 → SmallPast (second_digit n s)
unfolding second_digit
second-small n [] h = omega arith
second-small n (b ∷ s) h = cases (is_digit b) refl
  where
    cases : (t : Bool) → is_digit b ≡ t → SmallPast (second_digit n (b ∷ s))
    cases true e = rw (e, second_digit) (let k = digit-high b e in omega arith)
    cases false e = rw (e, second_digit) (omega arith)

pub two_digits : (s : Text) → SmallPast (number s)
unfolding number
two_digits [] = tt
two_digits (b ∷ s) = cases (is_digit b) refl
  where
    first : (t : Bool) → is_digit b ≡ true → eqb b 48 ≡ t → SmallPast (elim t as (λ _. Past ℕ) [ true ↦ past 0 s | false ↦ second_digit (b - 48) s ])
    first true e f = omega arith
    first false e f = second-small (b - 48) s (let k = digit-high b e in omega arith)

    cases : (t : Bool) → is_digit b ≡ t → SmallPast (number (b ∷ s))
    cases true e = rw (e, number) (first (eqb b 48) e refl)
    cases false e = rw (e, number) tt

pub name-low : (words : List Text) (w : Text) → name_number words w ≤ length words
unfolding name_number
name-low [] w = omega arith
name-low (v ∷ vs) w = cases (same_text v w) refl (name-low vs w)
  where
    cases : (t : Bool) → same_text v w ≡ t → name_number vs w ≤ length vs → name_number (v ∷ vs) w ≤ suc (length vs)
    cases true e h = rw (e, name_number) (omega arith)
    cases false e h = rw (e, name_number) (omega arith)

pub name-known : (words : List Text) (w : Placed Text) → name_fault words w ≡ fine → name_number words w.it < length words
unfolding name_fault
name-known words w e =
    let n = name_number words w.it in ltb-true n (length words) (unless-none (ltb n (length words)) name w.from e)

named : (words : List Text) (entry : ℕ) (p : Part) → (part_item words entry p).own ≡ fine → name_number words p.name.it < length words
named words entry p e = name-known words p.name (worse-none (name_fault words p.name) (unless (leb 1 p.times) amount entry) e).0

-- So a part that was read is known in this sense.
abbrev KnownPast : Past Said → Type 0
KnownPast (past e r) = Known e
KnownPast (stuck r) = Unit {0}

module _ (words : List Text) (entry : ℕ) (few : length words ≤ 24) where
  known-part : (p : Part) → p.times ≤ 99 → Known (part_said words entry p)
  known-part p h =
      record {
        low = let l = name-low words p.name.it in omega arith;
        known = λ e. let k = named words entry p e in omega arith;
        few = h;
      }

  -- a name with the number after it, and such a part as it is said
  abbrev timed : Placed Text → ℕ → Text → Past Part
  timed w n p = past (record { name = w; times = n }) p

  abbrev saying : Part → Text → Past Said
  saying p r = past (part_said words entry p) r

  known-last : (w : Placed Text) (z : Past ℕ) → SmallPast z → KnownPast (onward (onward z (timed w)) saying)
  known-last w (past n r) h = known-part (record { name = w; times = n }) h
  known-last w (stuck r) h = tt

  known-sign : (w : Placed Text) (y : Past (Unit {0})) → KnownPast (onward (onward y (λ _ q. onward (number q) (timed w))) saying)
  known-sign w (past u q) = known-last w (number q) (two_digits q)
  known-sign w (stuck q) = tt

  known-word : (x : Past (Placed Text)) → KnownPast (onward (onward x (λ w r. onward (byte colon r) (λ _ q. onward (number q) (timed w)))) saying)
  known-word (past w r) = known-sign w (byte colon r)
  known-word (stuck r) = tt

  pub part-known : (s : Text) {e : Said} {r : Text} → past e r ≡ seen (part_said words entry) part s → Known e
  unfolding part
  part-known s h = let k = known-word (placed word s) in rw (← h) at k

-- The label from its parts.
module _ (words : List Text) (entry : ℕ) where
  weight-actions : (ps : Parts) → weight_of sizes (map (part_said words entry) ps) ≡ actions ps
  unfolding weight_of actions
  weight-actions [] = refl
  weight-actions (p ∷ ps) = ap (λ n. p.times + n) (weight-actions ps)

  label-faults : (ps : Parts) → label_fault words entry ps ≡ parts_fault entry (map (part_said words entry) ps)
  unfolding label_fault
  label-faults ps = said-faults sizes (λ e. entry) 31 (part_said words entry) ps

  label-number : (ps : Parts) → Each (λ p. (part_item words entry p).own ≡ fine) ps → number_said words ps ≡ number_of (map (part_said words entry) ps)
  unfolding label_said number_of
  label-number [] h = number-empty (length words)
  label-number (p ∷ ps) h =
      let n = name_number words p.name.it in
      number-plus (several (length words) n p.times) (label_said words ps)
      ∙ ap₂ ◌+◌ (number-several (length words) n p.times (named words entry p h.0)) (label-number ps h.1)

  same_number : (ps : Parts) (f : Found) → f ≡ label_fault words entry ps
      → unless_faulty f (number_said words ps) ≡ unless_faulty f (number_of (map (part_said words entry) ps))
  unfolding label_fault items_fault
  same_number ps fine e = label-number ps (items-fine (part_item words entry) 31 0 0 ps (sym e))
  same_number ps (fault x p) e = refl

  pub label-total : (ps : Parts) → label_entry words (record { it = ps; from = entry }) ≡ parts_entry entry (map (part_said words entry) ps)
  label-total ps =
      said_same (label-faults ps)
      (same_number ps (label_fault words entry ps) refl ∙ ap (λ f. unless_faulty f (number_of (map (part_said words entry) ps))) (label-faults ps))
      (ap (min 32) (sym (weight-actions ps)))

pub label-seen : (words : List Text) (s : Text)
    → onward (separated dot (seen (part_said words (length s)) part) s) (λ es r. past (parts_entry (length s) es) r)
    ≡ seen (label_entry words) (placed label) s
label-seen words s =
    gathered (part_said words (length s)) dot part (parts_entry (length s)) (λ ps. label_entry words (record { it = ps; from = length s }))
    (label-total words (length s)) s
    ∙ sym (placed-seen (label_entry words) label s)

-- A name's number is that of a name or the one after the last.
abbrev LowPast : ℕ → Past Said → Type 0
LowPast n (past e r) = e.first ≤ n
LowPast n (stuck r) = Unit {0}

pub name-said-low : (words : List Text) (s : Text) {e : Said} {r : Text} → past e r ≡ seen (name_entry words) (placed word) s → e.first ≤ length words
name-said-low words s h = let k = low (placed word s) in rw (← h) at k
  where
    low : (x : Past (Placed Text)) → LowPast (length words) (onward x (λ w r. past (name_entry words w) r))
    low (past w r) = name-low words w.it
    low (stuck r) = tt

-- No entry's number is too large to have another after it.
unless-small : (f : Found) (n m : ℕ) → (f ≡ fine → n < m) → 0 < m → unless_faulty f n < m
unless-small fine n m h z = h refl
unless-small (fault x p) n m h z = z

module _ (words : List Text) (few : length words ≤ 24) (entry : ℕ) where
  parts_below : (ps : Parts) → Each Below (map (part_said words entry) ps)
  parts_below [] = tt
  parts_below (p ∷ ps) = (λ e. let k = named words entry p e in omega arith, parts_below ps)

  pub label_small : (ps : Parts) → unless_faulty (label_fault words entry ps) (number_said words ps) < 2 ^ 120
  label_small ps =
      rw (ap (λ e. e.first) (label-total words entry ps))
      (unless-small (parts_fault entry (map (part_said words entry) ps)) (number_of (map (part_said words entry) ps)) (2 ^ 120)
      (number_small entry (map (part_said words entry) ps) (parts_below ps)) (omega arith))
