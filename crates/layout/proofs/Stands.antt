-- Sets that stand in one half: in which order, how far, and how many labels they have together.
-- Assumes nothing.
use mathlib.Core.Path.{◌≡◌, refl, sym, ap, ap₂, ◌∙◌}
use mathlib.Core.Logic.{inl, inr, ⊎_elim}
use mathlib.Core.List.{List, [], ◌∷◌}
use Prim.Native.Nat.{ℕ, zero, suc, ◌+◌, ◌*◌, ◌-◌, ◌≤◌, ◌<◌, compare, Ordering}
use native.Mathlib.Nat.{lt_trans, not-suc-le-zero}
use native.Mathlib.Decide.{dec_lt}
use native.Mathlib.Omega.{arith}
use borrow.Author.Tests.{eq-eqb, ne_eqb}
use lib.ListN.{length, get_or, take, drop, replicate, length-replicate, get_or-replicate, get_or-eq_default}
use lib.Seq.{drop-nil}
use Rattle.meaning.specs.Sets.{◌∈◌, Rising}
use Rattle.meaning.proofs.Tests.{Says, compare-says}
use Rattle.sets.specs.Inserting.{placed_by, insert_number}
use Rattle.sets.proofs.Presence.{in_insert}
use Rattle.merging.specs.Joining.{joined}
use Rattle.extents.specs.Extents.{part_at}
use Rattle.extents.proofs.Rows.{words-length}
use Rattle.layout.specs.Weaving.{Apart}
use Rattle.layout.specs.Layout.{Standing, half_of, sizes, joined_at}

module _ {terms : ℕ} {sets : ℕ → List ℕ} {row work : List ℕ} (x : Standing terms sets row work) where
  -- A set ends before every later one begins, and before the half ends.
  pub standing-order : (u t : ℕ) → u < t → t ≤ terms → (part_at row u).to ≤ (part_at row t).from
  standing-order u zero h k = absurd (not-suc-le-zero h)
  standing-order u (suc t) h k = elim (dec_lt u t) [
    | yes l ↦
        let first = standing-order u t l (omega arith) in
        let up = x.upright t (omega arith) in
        let next = x.apart t (omega arith) in
        omega arith
    | no l ↦ let e : u ≡ t = omega arith in rw e (x.apart t (omega arith))
  ]

  pub standing-begins : (u t : ℕ) → u ≤ t → t ≤ terms → (part_at row u).from ≤ (part_at row t).from
  standing-begins u t h k = elim (dec_lt u t) [
    | yes l ↦ let up = x.upright u (omega arith) in let o = standing-order u t l k in omega arith
    | no l ↦ let e : u ≡ t = omega arith in rw e (omega arith)
  ]

  -- All of them lie within the words.
  pub standing-next : (t : ℕ) → t ≤ terms → (part_at row t).from ≤ length work
  standing-next t h =
      let b = standing-begins t terms h (omega arith) in
      ⊎_elim (λ l. omega arith) (λ u. let w = u.2 in omega arith) x.half

  pub standing-within : (t : ℕ) → t < terms → (part_at row t).to ≤ length work
  standing-within t h = let e = x.apart t h in let l = standing-next (suc t) h in omega arith

  pub standing-length : (t : ℕ) → t < terms → length (sets t) ≡ (part_at row t).to - (part_at row t).from
  standing-length t h =
      let w = standing-within t h in
      ap length (sym (x.here t h)) ∙ words-length (part_at row t) work ∙ omega arith

  -- If the half ends in the upper one, no set begins before it.
  pub standing-upper : half_of work < (part_at row terms).from → (t : ℕ) → t < terms → half_of work ≤ (part_at row t).from
  standing-upper high t h =
      let b = standing-begins 0 t (omega arith) (omega arith) in
      ⊎_elim (λ low. absurd (omega arith)) (λ u. let l = u.0 in omega arith) x.half

  pub standing-as : {sets' : ℕ → List ℕ} → ((t : ℕ) → t < terms → sets t ≡ sets' t) → Standing terms sets' row work
  standing-as e = record {
    long = x.long;
    here = λ t h. x.here t h ∙ e t h;
    upright = x.upright;
    apart = x.apart;
    half = x.half;
  }

-- A row of zeros long enough stands for empty sets.
abbrev zeros : ℕ → List ℕ
zeros count = replicate count 0

none-at : (count i : ℕ) → get_or (zeros count) i 0 ≡ 0
none-at count i = elim (dec_lt i count) [
  | yes l ↦ get_or-replicate count i 0 0 l
  | no l ↦ get_or-eq_default (zeros count) 0 (omega (arith, length-replicate {A = ℕ} count 0))
]

pub standing-start : (terms count : ℕ) (work : List ℕ) → 2 * terms + 2 ≤ count → Standing terms (λ t. []) (replicate count 0) work
standing-start terms count work h = record {
  long = rw (length-replicate {A = ℕ} count 0) h;
  here = λ t l. let from = get_or (zeros count) (2 * t) 0 in
      ap (λ (n : ℕ). drop from (take n work)) (none-at count (2 * t + 1)) ∙ drop-nil from;
  upright = λ t l. omega (arith, none-at count (2 * t), none-at count (2 * t + 1));
  apart = λ t l. omega (arith, none-at count (2 * t + 1), none-at count (2 * suc t));
  half = inl (omega (arith, none-at count (2 * terms)));
}

-- How many labels there are together: no fewer with more terms.
pub sizes-mono : (sets : ℕ → List ℕ) (u t : ℕ) → u ≤ t → sizes u sets ≤ sizes t sets
unfolding sizes
sizes-mono sets u zero h = let e : u ≡ 0 = omega arith in rw e (omega arith)
sizes-mono sets u (suc t) h = elim (dec_lt u (suc t)) [
  | yes l ↦ let m = sizes-mono sets u t (omega arith) in omega arith
  | no l ↦ let e : u ≡ suc t = omega arith in rw e (omega arith)
]

-- Labels that are not there make a list longer by as many.
length-placed : (o : Ordering) (w v : ℕ) (s more : List ℕ) → Says ◌<◌ o w v → (w ≡ v → ⊥) → length more ≡ suc (length s)
    → length (placed_by o w v s more) ≡ suc (suc (length s))
length-placed Ordering.lt w v s more h n e = refl
length-placed Ordering.eq w v s more h n e = absurd (n h)
length-placed Ordering.gt w v s more h n e = ap suc e

length-insert : (w : ℕ) (s : List ℕ) → (w ∈ s → ⊥) → length (insert_number w s) ≡ suc (length s)
unfolding insert_number
length-insert w [] n = refl
length-insert w (v ∷ s) n =
    length-placed (compare w v) w v s (insert_number w s) (compare-says w v) (λ e. n (inl e)) (length-insert w s (λ m. n (inr m)))

rising-above : (x : ℕ) (s : List ℕ) (w : ℕ) → Rising (x ∷ s) → w ∈ s → x < w
rising-above x [] w r x4 = elim x4 [ ]
rising-above x (y ∷ s) w r (inl e) = rw e r.0
rising-above x (y ∷ s) w r (inr m) = lt_trans r.0 (rising-above y s w r.1 m)

pub length-joined : (s ws : List ℕ) → Rising ws → Apart s ws → length (joined s ws) ≡ length s + length ws
unfolding joined
length-joined s [] r a = omega arith
length-joined s (w ∷ ws) r a =
    let grown = length-insert w s (λ m. a w m (inl refl)) in
    let more = length-joined (insert_number w s) ws r.1
    (λ v m k. elim ((in_insert w s v).0 m) [
      | inl e ↦ let l = rising-above w ws v r k in omega arith
      | inr n ↦ a v n (inr k)
    ]) in
    omega arith

module _ (n : ℕ) (news : List ℕ) (sets : ℕ → List ℕ) where
  pub joined-here : joined_at n news sets n ≡ joined (sets n) news
  joined-here = rw (eq-eqb n n refl)

  pub joined-other : (t : ℕ) → (t ≡ n → ⊥) → joined_at n news sets t ≡ sets t
  joined-other t h = rw (ne_eqb t n h)

  sizes-before : (t : ℕ) → t ≤ n → sizes t (joined_at n news sets) ≡ sizes t sets
  unfolding sizes
  sizes-before zero h = refl
  sizes-before (suc t) h = ap₂ (λ (a : ℕ) (s : List ℕ). a + length s) (sizes-before t (omega arith)) (joined-other t (λ e. omega arith))

pub sizes-joined : (terms n : ℕ) (news : List ℕ) (sets : ℕ → List ℕ) → n < terms → Rising news → Apart (sets n) news
    → sizes terms (joined_at n news sets) ≡ sizes terms sets + length news
unfolding sizes
sizes-joined (suc t) n news sets h r a = elim (dec_lt n t) [
  | yes l ↦
      let e = sizes-joined t n news sets l r a in
      let o = ap length (joined-other n news sets t (λ e. omega arith)) in
      omega arith
  | no l ↦
      let e : t ≡ n = omega arith in
      let b = sizes-before n news sets t (omega arith) in
      let o = ap length (joined-here n news sets) ∙ length-joined (sets n) news r a in
      rw (b, e) (omega arith)
]
sizes-joined zero n news sets h r a = absurd (not-suc-le-zero h)
