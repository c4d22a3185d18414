-- A label and its entries: ascending entries give a label that has just these entries, and a label's entries give it back.
-- Assumes nothing.
use mathlib.Core.Path.{◌≡◌, refl, sym, ap, ap₂, subst, ◌∙◌, ◌≡⟨◌⟩◌, ◌∎}
use mathlib.Core.Logic.{◌⊎◌, inl, inr}
use mathlib.Core.Bool.{true, false}
use mathlib.Core.List.{List, [], ◌∷◌, map}
use Prim.Native.Nat.{ℕ, zero, suc, ◌+◌, ◌≤◌, ◌<◌}
use native.Mathlib.Nat.{zero-add}
use native.Mathlib.Omega.{arith}
use lib.Dec.{T, eqb, eqb-suc-suc, eqb-suc-zero, eqb→eq, eqb_refl, not_T}
use lib.ListN.{length, drop, length-replicate}
use lib.Seq.{ext_get_or, drop-cons}
use Rattle.meaning.specs.Bytes.{Text}
use Rattle.meaning.specs.Labels.{Label, count, size, empty, several, plus}
use Rattle.meaning.specs.Sets.{Above, Rising}
use Rattle.meaning.specs.Legal.{Each, LegalLabel}
use Rattle.meaning.proofs.Tests.{decided-by}
use Rattle.meaning.proofs.Bags.{count-plus, length-plus, length-several, size-plus, size-empty}
use Rattle.grammar.specs.Forms.{dot}
use Rattle.grammar.specs.Marks.{joined_by, part_text, part_texts, label_text}
use Rattle.grammar.specs.Writing.{name_text}
use Rattle.grammar.proofs.Marks.{part_texts-some}
use Rattle.grammar.proofs.Items.{weigh}
use Rattle.grammar.proofs.Onwards.{T→true, T-not→false}
use Rattle.grammar.proofs.Writes.{each_weaken}

-- A label's entries: the names that occur, from name n on, with their counts.
pub record Entry : Type 0 where
  pub name : ℕ
  pub times : ℕ

unfoldable pub entries_from : ℕ → Label → List Entry
entries_from n [] = []
entries_from n (x ∷ a) = elim (eqb x 0) [ true ↦ entries_from (suc n) a | false ↦ record { name = n; times = x } ∷ entries_from (suc n) a ]

abbrev pub entry_text : List Text → Entry → Text
entry_text words e = part_text (name_text words e.name) e.times

-- Entries added up, and how many actions they hold.
unfoldable pub added : ℕ → List Entry → Label
added names [] = empty names
added names (e ∷ es) = plus (several names e.name e.times) (added names es)

abbrev pub total : List Entry → ℕ
total es = weigh (λ e. e.times) es

-- How often the entries have name i.
unfoldable occurs : Entry → ℕ → ℕ
occurs e i = elim (eqb e.name i) [ true ↦ e.times | false ↦ 0 ]

unfoldable held : List Entry → ℕ → ℕ
held [] i = 0
held (e ∷ es) i = occurs e i + held es i

occurs-same : (e : Entry) (i : ℕ) → e.name ≡ i → occurs e i ≡ e.times
unfolding occurs
occurs-same e i p = rw (T→true (eqb e.name i) (subst (λ k. T (eqb e.name k)) p (eqb_refl e.name)), occurs)

occurs-other : (e : Entry) (i : ℕ) → (e.name ≡ i → ⊥) → occurs e i ≡ 0
unfolding occurs
occurs-other e i f = rw (T-not→false (eqb e.name i) (not_T (eqb e.name i) (λ t. f (eqb→eq e.name i t))), occurs)

same_number : (m n : ℕ) → (m ≡ n) ⊎ (m ≡ n → ⊥)
same_number m n = elim (decided-by (eqb m n)) [ inl t ↦ inl (eqb→eq m n t) | inr f ↦ inr (λ e. f (subst (λ k. T (eqb m k)) e (eqb_refl m))) ]

count-empty : (names i : ℕ) → count (empty names) i ≡ 0
count-empty zero i = refl
count-empty (suc names) zero = refl
count-empty (suc names) (suc i) = count-empty names i

occurs-suc : (n times i : ℕ) → occurs (record { name = n; times = times }) i ≡ occurs (record { name = suc n; times = times }) (suc i)
unfolding occurs
occurs-suc n times i = sym (rw (eqb-suc-suc n i, occurs))

occurs-none : (n i : ℕ) → occurs (record { name = n; times = 0 }) i ≡ 0
unfolding occurs
occurs-none n i = elim (eqb n i) as (λ t. ◌≡◌ {A = ℕ} (elim t as (λ _. ℕ) [ true ↦ 0 | false ↦ 0 ]) 0) [ true ↦ refl | false ↦ refl ]

count-several : (names n times i : ℕ) → n < names → count (several names n times) i ≡ occurs (record { name = n; times = times }) i
count-several zero n times i h = absurd (omega arith)
count-several (suc names) zero times zero h = sym (occurs-same (record { name = 0; times = times }) 0 refl)
count-several (suc names) zero times (suc i) h =
    count-empty names i ∙ sym (occurs-other (record { name = 0; times = times }) (suc i) (λ e. absurd (omega arith)))
count-several (suc names) (suc n) times zero h = sym (occurs-other (record { name = suc n; times = times }) 0 (λ e. absurd (omega arith)))
count-several (suc names) (suc n) times (suc i) h = count-several names n times i (omega arith) ∙ occurs-suc n times i

abbrev Below : ℕ → List Entry → Type 0
Below names es = Each (λ e. e.name < names) es

count-added : (names : ℕ) (es : List Entry) (i : ℕ) → Below names es → count (added names es) i ≡ held es i
unfolding added held
count-added names [] i h = count-empty names i
count-added names (e ∷ es) i h =
    count-plus (several names e.name e.times) (added names es) i
    ∙ ap₂ ◌+◌ (count-several names e.name e.times i h.0) (count-added names es i h.1)

length-added : (names : ℕ) (es : List Entry) → length (added names es) ≡ names
unfolding added
length-added names [] = length-replicate names 0
length-added names (e ∷ es) =
    length-plus names (several names e.name e.times) (added names es) (length-several names e.name e.times) (length-added names es)

pub size-known : (names n times : ℕ) → n < names → size (several names n times) ≡ times
unfolding size
size-known zero n times h = absurd (omega arith)
size-known (suc names) zero times h = let e = size-empty names in omega arith
size-known (suc names) (suc n) times h = let ih = size-known names n times (omega arith) in omega arith

size-added : (names : ℕ) (es : List Entry) → Below names es → size (added names es) ≡ total es
unfolding added weigh
size-added names [] h = size-empty names
size-added names (e ∷ es) h =
    size-plus (several names e.name e.times) (added names es) ∙ ap₂ ◌+◌ (size-known names e.name e.times h.0) (size-added names es h.1)

-- The entries of a label, from name n on.
entries-some : (n x : ℕ) (a : Label) → entries_from n (suc x ∷ a) ≡ record { name = n; times = suc x } ∷ entries_from (suc n) a
unfolding entries_from
entries-some n x a = rw (eqb-suc-zero x, entries_from)

-- A label's parts are the texts of its entries.
parts-entries : (words : List Text) (a : Label) (n : ℕ) → n + length a ≤ length words → part_texts (drop n words) a ≡ map (entry_text words) (entries_from n a)
unfolding part_texts entries_from
parts-entries words [] n h = refl
parts-entries words (zero ∷ a) n h = rw (drop-cons words n [] (omega arith)) (parts-entries words a (suc n) (omega arith))
parts-entries words (suc x ∷ a) n h =
    let word = name_text words n in
    rw (drop-cons words n [] (omega arith), entries-some n x a, part_texts-some word (drop (suc n) words) (suc x) a (λ e. absurd (omega arith)))
    (ap {B = List Text} (λ ts. part_text (name_text words n) (suc x) ∷ ts) (parts-entries words a (suc n) (omega arith)))

pub label-entries : (words : List Text) (a : Label) → length a ≡ length words → label_text words a ≡ joined_by dot (map (entry_text words) (entries_from 0 a))
label-entries words a h = ap (joined_by dot) (parts-entries words a 0 (omega arith))

held-entries : (n x : ℕ) (a : Label) (i : ℕ) → held (entries_from n (x ∷ a)) i ≡ occurs (record { name = n; times = x }) i + held (entries_from (suc n) a) i
unfolding entries_from held
held-entries n zero a i = let e = occurs-none n i in omega arith
held-entries n (suc x) a i = rw (entries-some n x a)

held_below : (a : Label) (n i : ℕ) → i < n → held (entries_from n a) i ≡ 0
unfolding entries_from held
held_below [] n i h = refl
held_below (x ∷ a) n i h =
    let p = occurs-other (record { name = n; times = x }) i (λ e. absurd (omega arith)) in
    held-entries n x a i ∙ ap₂ ◌+◌ p (held_below a (suc n) i (omega arith))

held_at : (a : Label) (n i j : ℕ) → j ≡ n + i → held (entries_from n a) j ≡ count a i
unfolding entries_from held
held_at [] n i j h = refl
held_at (x ∷ a) n zero j h =
    let p = occurs-same (record { name = n; times = x }) j (omega arith) in
    let q = held_below a (suc n) j (omega arith) in
    held-entries n x a j ∙ omega arith
held_at (x ∷ a) n (suc i) j h =
    let p = occurs-other (record { name = n; times = x }) j (λ e. absurd (omega arith)) in
    held (entries_from n (x ∷ a)) j
    ≡⟨ held-entries n x a j ⟩ occurs (record { name = n; times = x }) j + held (entries_from (suc n) a) j
    ≡⟨ ap₂ ◌+◌ p (held_at a (suc n) i j (omega arith)) ⟩ 0 + count a i
    ≡⟨ zero-add (count a i) ⟩ count a i ∎

-- names from n on and below m, counts from 1 to k
abbrev Between : ℕ → ℕ → ℕ → Entry → Type 0
Between n m k e = (n ≤ e.name) × (e.name < m) × (1 ≤ e.times) × (e.times ≤ k)

between-entries : (a : Label) (n m k : ℕ) → n + length a ≤ m → size a ≤ k → Each (Between n m k) (entries_from n a)
unfolding entries_from size
between-entries [] n m k h l = tt
between-entries (zero ∷ a) n m k h l =
    let later = between-entries a (suc n) m k (omega arith) (omega arith) in
    each_weaken (Between (suc n) m k) (Between n m k) (entries_from (suc n) a) (λ e b. omega arith) later
between-entries (suc x ∷ a) n m k h l =
    let later = between-entries a (suc n) m k (omega arith) (omega arith) in
    rw (entries-some n x a)
    (omega arith, each_weaken (Between (suc n) m k) (Between n m k) (entries_from (suc n) a) (λ e b. omega arith) later)

total-entries : (a : Label) (n : ℕ) → total (entries_from n a) ≡ size a
unfolding entries_from size weigh
total-entries [] n = refl
total-entries (zero ∷ a) n = let ih = total-entries a (suc n) in omega arith
total-entries (suc x ∷ a) n = rw (entries-some n x a) (let ih = total-entries a (suc n) in omega arith)

abbrev Ascends : List Entry → Type 0
Ascends es = Rising (map (λ e. e.name) es)

above-each : (n : ℕ) (es : List Entry) → Each (λ e. n < e.name) es → Above n (map (λ e. e.name) es)
above-each n [] h = tt
above-each n (e ∷ es) h = h.0

ascends-entries : (a : Label) (n : ℕ) → Ascends (entries_from n a)
unfolding entries_from
ascends-entries [] n = tt
ascends-entries (zero ∷ a) n = ascends-entries a (suc n)
ascends-entries (suc x ∷ a) n =
    let m = suc n + length a in
    let b = between-entries a (suc n) m (size a) (omega arith) (omega arith) in
    rw (entries-some n x a) (
      above-each n (entries_from (suc n) a) (each_weaken (Between (suc n) m (size a)) (λ e. n < e.name) (entries_from (suc n) a) (λ e h. h.0) b),
      ascends-entries a (suc n),
    )

-- ascending entries: those behind one have higher names
above-all : (e : Entry) (es : List Entry) → Ascends (e ∷ es) → Each (λ f. e.name < f.name) es
above-all e [] h = tt
above-all e (f ∷ es) h = (h.0, each_weaken (λ g. f.name < g.name) (λ g. e.name < g.name) es (λ g k. omega arith) (above-all f es h.1))

held_none : (es : List Entry) (i : ℕ) → Each (λ e. i < e.name) es → held es i ≡ 0
unfolding held
held_none [] i h = refl
held_none (e ∷ es) i h =
    let p = occurs-other e i (λ q. let l = h.0 in absurd (omega arith)) in ap₂ ◌+◌ p (held_none es i h.1)

-- A label that holds what ascending entries hold has just these entries.
onwards : (n m k : ℕ) (es : List Entry) → Each (Between n m k) es → Each (λ e. n < e.name) es → Each (Between (suc n) m k) es
onwards n m k [] b h = tt
onwards n m k (e ∷ es) b h = (omega (arith, b.0, h.0), onwards n m k es b.1 h.1)

entries-unique : (a : Label) (n m k : ℕ) (es : List Entry)
    → m ≡ n + length a
    → ((i j : ℕ) → j ≡ n + i → count a i ≡ held es j)
    → Each (Between n m k) es
    → Ascends es
    → entries_from n a ≡ es
unfolding entries_from held
entries-unique [] n m k [] l h b r = refl
entries-unique [] n m k (e ∷ es) l h b r = absurd (omega (arith, b.0))
entries-unique (zero ∷ a) n m k [] l h b r = entries-unique a (suc n) m k [] (omega arith) (λ i j q. h (suc i) j (omega arith)) tt tt
entries-unique (suc x ∷ a) n m k [] l h b r = absurd (omega (arith, h 0 n (omega arith)))
entries-unique (zero ∷ a) n m k (e ∷ es) l h b r =
    let first = h 0 n (omega arith) in
    let apart : n < e.name = elim (same_number e.name n) [
      | inl q ↦ let c = occurs-same e n q in absurd (omega (arith, b.0))
      | inr f ↦ omega (arith, b.0, f)
    ] in
    let above = each_weaken (λ f. e.name < f.name) (λ f. n < f.name) es (λ f g. omega arith) (above-all e es r) in
    entries-unique a (suc n) m k (e ∷ es) (omega arith) (λ i j q. h (suc i) j (omega arith)) (onwards n m k (e ∷ es) b (apart, above)) r
entries-unique (suc x ∷ a) n m k (e ∷ es) l h b r =
    let first = h 0 n (omega arith) in
    let above = each_weaken (λ f. e.name < f.name) (λ f. n < f.name) es (λ f g. omega (arith, b.0)) (above-all e es r) in
    let none = held_none es n above in
    let same : e.name ≡ n = elim (same_number e.name n) [
      | inl q ↦ q
      | inr f ↦ let c = occurs-other e n f in absurd (omega arith)
    ] in
    let c = occurs-same e n same in
    let times : suc x ≡ e.times = omega arith in
    let rest = entries-unique a (suc n) m k es (omega arith)
    (λ i j q. h (suc i) j (omega arith) ∙ let o = occurs-other e j (λ u. absurd (omega arith)) in omega arith) (onwards n m k es b.1 above) r.1 in
    entries-some n x a ∙ ap₂ {C = List Entry} (λ f fs. f ∷ fs) (ap₂ {C = Entry} (λ u v. record { name = u; times = v }) (sym same) times) rest

-- What was read of a label: at least one entry, each legal, ascending, of at most 31 actions.
abbrev pub LegalEntry : ℕ → Entry → Type 0
LegalEntry names e = (e.name < names) × ((e.times < 100) × (1 ≤ e.times))

abbrev pub LegalEntries : ℕ → List Entry → Type 0
LegalEntries names es = (1 ≤ length es) × Each (LegalEntry names) es × Ascends es × (total es ≤ 31)

some-actions : (names : ℕ) (es : List Entry) → 1 ≤ length es → Each (LegalEntry names) es → 1 ≤ total es
unfolding weigh
some-actions names [] n h = n
some-actions names (e ∷ es) n h = omega (arith, h.0)

some-entries : (es : List Entry) → 1 ≤ total es → 1 ≤ length es
unfolding weigh
some-entries [] h = h
some-entries (e ∷ es) h = omega arith

pub added-legal : (names : ℕ) (es : List Entry) → LegalEntries names es → LegalLabel names (added names es) × (entries_from 0 (added names es) ≡ es)
added-legal names es h =
    let below : Below names es = each_weaken (LegalEntry names) (λ e. e.name < names) es (λ e k. k.0) h.1 in
    let s = size-added names es below in
    let t = some-actions names es h.0 h.1 in
    let between = each_weaken (LegalEntry names) (Between 0 names 99) es (λ e k. omega arith) h.1 in
    let size : names ≡ 0 + length (added names es) = let l = length-added names es in omega arith in (
      (length-added names es, omega arith, omega (arith, h.3)),
      entries-unique (added names es) 0 names 99 es size (λ i j q. count-added names es i below ∙ ap (held es) (omega arith)) between h.2,
    )

pub entries-legal : (names : ℕ) (a : Label) → LegalLabel names a → LegalEntries names (entries_from 0 a) × (added names (entries_from 0 a) ≡ a)
entries-legal names a h =
    let es = entries_from 0 a in
    let t = total-entries a 0 in
    let between = between-entries a 0 names 31 (omega (arith, h.0)) h.2 in
    let below : Below names es = each_weaken (Between 0 names 31) (λ e. e.name < names) es (λ e k. k.1) between in
    let entries = each_weaken (Between 0 names 31) (LegalEntry names) es (λ e k. omega arith) between in (
      (some-entries es (omega (arith, h.1)), entries, ascends-entries a 0, omega (arith, h.2)),
      ext_get_or 0 (added names es) a (length-added names es ∙ sym h.0) (λ i _. count-added names es i below ∙ held_at a 0 i i (omega arith)),
    )
