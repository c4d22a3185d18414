-- Lists of names and maps of names, one entry more at a time.
-- Assumes nothing.
use mathlib.Core.Path.{◌≡◌, refl, sym, ap, ap₂, subst, ◌∙◌}
use mathlib.Core.Bool.{true, false}
use mathlib.Core.List.{List, [], ◌∷◌, ◌++◌, append_assoc, append-nil}
use Prim.Native.Nat.{ℕ, zero, suc, ◌+◌, ◌-◌, ◌/◌, ◌%◌, ◌^◌, ◌≤◌, ◌<◌}
use native.Mathlib.Nat.{le_refl, mod-mod, add-mod, zero-add, add-zero}
use native.Mathlib.Numerals.{add-one}
use native.Mathlib.Omega.{arith}
use borrow.Author.Tests.{eq-eqb, ne_eqb}
use lib.Dec.{eqb}
use lib.ListN.{length, get_or, set, drop, drop_of_length-le}
use lib.Seq.{drop-cons, set_out}
use Rattle.std.proofs.lemmas.List.{nil_from_length}
use Rattle.meaning.specs.Labels.{Label, count, number, label_of, several, clear, without, renamed_from}
use Rattle.meaning.specs.Descriptions.{Pair}
use Rattle.meaning.specs.Rounds.{pick, target}
use Rattle.meaning.proofs.Bags.{number-plus}
use Rattle.meaning.proofs.Digits.{length-label_of}
use Rattle.labels.specs.declared.Label as packing
use Rattle.labels.specs.Packing.{code, packed}
use Rattle.labels.specs.Bags.{bag}
use Rattle.areas.specs.Pairs.{pair_of, pairs_in}
use Rattle.names.specs.Names.{tabulated, targets}
use Rattle.labels.proofs.Codes.{code_of, packed-code}
use Rattle.labels.proofs.Words.{number-bag, number-empty}
use Rattle.names.proofs.Counts.{label_of-code, bag-cleared, number-less}

-- Two names hidden in either order.
hidden_twice : (a : Label) (n m : ℕ) → set (set a n 0) m 0 ≡ set (set a m 0) n 0
hidden_twice [] n m = refl
hidden_twice (x ∷ a) zero zero = refl
hidden_twice (x ∷ a) zero (suc m) = refl
hidden_twice (x ∷ a) (suc n) zero = refl
hidden_twice (x ∷ a) (suc n) (suc m) = ap (λ (b : Label). x ∷ b) (hidden_twice a n m)

hidden_first : (names : List ℕ) (a : Label) (n : ℕ) → without names (set a n 0) ≡ set (without names a) n 0
unfolding without
hidden_first [] a n = refl
hidden_first (m ∷ names) a n = ap (λ (b : Label). set b m 0) (hidden_first names a n) ∙ hidden_twice (without names a) n m

-- A label of number w without the names before the i-th of the list: without the others too it is w's without all.
pub record Hidden (names : List ℕ) (w i : ℕ) (left : packing.Label) : Type 0 where
  pub fits : code left < 2 ^ 124
  pub packs : left ≡ packed (code left)
  pub hidden : without (drop i names) (bag (code left)) ≡ without names (bag w)

pub hidden-start : (names : List ℕ) (left : packing.Label) → left.lower < 2 ^ 60 → left.upper < 2 ^ 64 → Hidden names (code left) 0 left
unfolding code
hidden-start names left h k = record { fits = omega arith; packs = sym (packed-code left h); hidden = refl }

pub hidden-step : {names : List ℕ} {w i : ℕ} {left next : packing.Label} → Hidden names w i left → i < length names
    → next ≡ packed (number (without (get_or names i 0 ∷ []) (bag (code left)))) → Hidden names w (i + 1) next
unfolding without
hidden-step {names} {w} {i} {left} {next} x h r =
    let n = get_or names i 0 in
    let b = bag (code left) in
    let one : drop i names ≡ n ∷ drop (i + 1) names = rw (add-one i) (drop-cons names i 0 h) in
    record {
      fits = let l = number-less b n in let k = number-bag (code left) x.fits in let f = x.fits in omega (arith, code_of r);
      packs = r ∙ ap packed (sym (code_of r));
      hidden = ap (without (drop (i + 1) names)) (ap bag (code_of r) ∙ bag-cleared (code left) n)
          ∙ hidden_first (drop (i + 1) names) b n
          ∙ sym (ap (λ (l : List ℕ). without l b) one)
          ∙ x.hidden;
    }

pub hidden-end : {names : List ℕ} {w i : ℕ} {left : packing.Label} → Hidden names w i left → length names ≤ i
    → left ≡ packed (number (without names (bag w)))
unfolding without
hidden-end {names} {w} {i} {left} x h =
    let none : without (drop i names) (bag (code left)) ≡ bag (code left) = rw (drop_of_length-le names h) in
    x.packs ∙ ap packed (sym (number-bag (code left) x.fits) ∙ ap number (sym none ∙ x.hidden))

-- The names from the i-th on decide whether none occurs: the i-th occurs or does not, or there is none left.
module _ (names : List ℕ) (a : Label) (i : ℕ) where
  module _ (h : i < length names) where
    pub clear-fail : (count a (get_or names i 0) ≡ 0 → ⊥) → clear (drop i names) a ≡ false
    unfolding clear
    clear-fail k = rw (drop-cons names i 0 h, ne_eqb (count a (get_or names i 0)) 0 k)

    pub clear_step : count a (get_or names i 0) ≡ 0 → clear (drop (i + 1) names) a ≡ clear (drop i names) a
    unfolding clear
    clear_step k = rw (add-one i, drop-cons names i 0 h, eq-eqb (count a (get_or names i 0)) 0 k)

  pub clear-end : length names ≤ i → clear (drop i names) a ≡ true
  unfolding clear
  clear-end h = rw (drop_of_length-le names h)

-- A map with one more name sent elsewhere is its list with one entry set.
listed-equal : (more first : ℕ) (f g : ℕ → ℕ) → ((n : ℕ) → first ≤ n → f n ≡ g n) → tabulated more first f ≡ tabulated more first g
unfolding tabulated
listed-equal zero first f g h = refl
listed-equal (suc more) first f g h = ap₂ {C = List ℕ} ◌∷◌ (h first (le_refl first)) (listed-equal more (suc first) f g (λ n k. h n (omega arith)))

abbrev sent : (ℕ → ℕ) → ℕ → ℕ → ℕ → ℕ
sent f left right n = pick (eqb n left) right (f n)

sent-there : (f : ℕ → ℕ) (left right n : ℕ) → n ≡ left → sent f left right n ≡ right
sent-there f left right n e = rw (eq-eqb n left e)

sent-elsewhere : (f : ℕ → ℕ) (left right n : ℕ) → (n ≡ left → ⊥) → sent f left right n ≡ f n
sent-elsewhere f left right n h = rw (ne_eqb n left h)

set-listed : (more first n v : ℕ) (f : ℕ → ℕ) → set (tabulated more first f) n v ≡ tabulated more first (sent f (first + n) v)
unfolding tabulated
set-listed zero first n v f = refl
set-listed (suc more) first zero v f =
    ap₂ {C = List ℕ} ◌∷◌ (sym (sent-there f (first + 0) v first (omega arith)))
    (listed-equal more (suc first) f (sent f (first + 0) v) (λ n k. sym (sent-elsewhere f (first + 0) v n (omega arith))))
set-listed (suc more) first (suc n) v f =
    let e : suc first + n ≡ first + suc n = omega arith in
    ap₂ {C = List ℕ} ◌∷◌ (sym (sent-elsewhere f (first + suc n) v first (omega arith)))
    (set-listed more (suc first) n v f ∙ ap (λ (k : ℕ). tabulated more (suc first) (sent f k v)) e)

pub set-target : (ps : List Pair) (p : Pair) → set (targets ps) p.left p.right ≡ targets (p ∷ ps)
unfolding target
set-target ps p =
    let e : 0 + p.left ≡ p.left = omega arith in
    set-listed 24 0 p.left p.right (target ps) ∙ ap (λ (k : ℕ). tabulated 24 0 (sent (target ps) k p.right)) e

pub length-listed : (more first : ℕ) (f : ℕ → ℕ) → length (tabulated more first f) ≡ more
unfolding tabulated
length-listed zero first f = refl
length-listed (suc more) first f = ap suc (length-listed more (suc first) f)

-- The list of a map when the pairs behind some are read, the last first. An entry past the 24 names changes nothing.
pub record Directed (pairs rest to : List ℕ) : Type 0 where
  pub read : List ℕ
  pub all : rest ++ read ≡ pairs
  pub directed : to ≡ targets (pairs_in read)

pub directed-start : (pairs : List ℕ)
    → Directed pairs pairs
    (0 ∷ 1 ∷ 2 ∷ 3 ∷ 4 ∷ 5 ∷ 6 ∷ 7 ∷ 8 ∷ 9 ∷ 10 ∷ 11 ∷ 12 ∷ 13 ∷ 14 ∷ 15 ∷ 16 ∷ 17 ∷ 18 ∷ 19 ∷ 20 ∷ 21 ∷ 22 ∷ 23 ∷ [])
unfolding tabulated target
directed-start pairs = record { read = []; all = append-nil pairs; directed = refl }

pub directed-step : {pairs rest next to : List ℕ} (pair : ℕ) → Directed pairs rest to → rest ≡ next ++ (pair ∷ [])
    → Directed pairs next (set to (pair % 32) (pair / 32))
directed-step {pairs} {rest} {next} {to} pair x e = record {
  read = pair ∷ x.read;
  all = sym (append_assoc next (pair ∷ []) x.read) ∙ ap (λ (l : List ℕ). l ++ x.read) (sym e) ∙ x.all;
  directed = ap (λ (l : List ℕ). set l (pair % 32) (pair / 32)) x.directed ∙ set-target (pairs_in x.read) (pair_of pair);
}

pub directed-skip : {pairs rest next to : List ℕ} (pair : ℕ) → Directed pairs rest to → rest ≡ next ++ (pair ∷ [])
    → 24 ≤ pair % 32 → Directed pairs next to
directed-skip {pairs} {rest} {next} {to} pair x e h =
    let l = ap length x.directed ∙ length-listed 24 0 (target (pairs_in x.read)) in
    subst (Directed pairs next) (set_out to (pair % 32) (pair / 32) (omega arith)) (directed-step pair x e)

pub directed-end : {pairs rest to : List ℕ} → Directed pairs rest to → length rest ≡ 0 → to ≡ targets (pairs_in pairs)
directed-end {pairs} {rest} x h =
    let none : rest ≡ [] = nil_from_length rest h in
    x.directed ∙ ap (λ (l : List ℕ). targets (pairs_in l)) (ap (λ (l : List ℕ). l ++ x.read) (sym none) ∙ x.all)

-- What a label weighs when it is renamed, name after name.
pub number-no-actions : (names n : ℕ) → number (several names n 0) ≡ 0
unfolding number
number-no-actions zero n = refl
number-no-actions (suc names) zero = omega (arith, number-empty names)
number-no-actions (suc names) (suc n) = omega (arith, number-no-actions names n)

module _ (to : ℕ → ℕ) where
  abbrev weight : ℕ → Label → ℕ
  weight i a = number (renamed_from i 24 to a)

  weight-cons : (i x : ℕ) (a : Label) → weight i (x ∷ a) ≡ number (several 24 (to i) x) + weight (suc i) a
  unfolding renamed_from
  weight-cons i x a = number-plus (several 24 (to i) x) (renamed_from (suc i) 24 to a)

  weight-nil : (i : ℕ) → weight i [] ≡ 0
  unfolding renamed_from
  weight-nil i = number-empty 24

  weight-none : (i rest : ℕ) → weight i (label_of 0 rest) ≡ 0
  unfolding label_of
  weight-none i rest = weight-nil i

  weight-append : (i : ℕ) (a b : Label) → weight i (a ++ b) ≡ weight i a + weight (i + length a) b
  weight-append i [] b = rw (add-zero i) (sym (ap (λ (x : ℕ). x + weight i b) (weight-nil i) ∙ zero-add (weight i b)))
  weight-append i (x ∷ a) b =
      let e : i + suc (length a) ≡ suc i + length a = omega arith in
      let ih = weight-append (suc i) a b in
      rw e (omega (arith, weight-cons i x (a ++ b), weight-cons i x a))

  weight-more : (i more rest : ℕ) → weight i (label_of (suc more) rest) ≡ number (several 24 (to i) (rest % 32)) + weight (suc i) (label_of more (rest / 32))
  unfolding label_of
  weight-more i more rest = weight-cons i (rest % 32) (label_of more (rest / 32))

  weight-zero : (i more : ℕ) → weight i (label_of more 0) ≡ 0
  weight-zero i zero = weight-none i 0
  weight-zero i (suc more) = weight-more i more 0 ∙ ap₂ ◌+◌ (number-no-actions 24 (to i)) (weight-zero (suc i) more)

-- A word renamed whose names are numbered from `first` on, those below i done: what they weigh stands in `made`, and the counts of the
-- others in `rest`.
module _ (to : ℕ → ℕ) (first w : ℕ) where
  pub record Moved (i rest : ℕ) (made : packing.Label) : Type 0 where
    pub reached : first ≤ i
    pub within : i ≤ first + 12
    pub fits : code made < 2 ^ 124
    pub packs : made ≡ packed (code made)
    pub moved : (code made + weight to i (label_of (first + 12 - i) rest)) % 2 ^ 124 ≡ weight to first (label_of 12 w) % 2 ^ 124

  pub moved-start : (made : packing.Label) → made ≡ packed 0 → Moved first w made
  moved-start made e =
      let z = code_of e in
      let k : first + 12 - first ≡ 12 = omega arith in
      record {
        reached = le_refl first;
        within = omega arith;
        fits = omega arith;
        packs = e ∙ ap packed (sym z);
        moved = rw (z, k) (ap (λ (x : ℕ). x % 2 ^ 124) (zero-add (weight to first (label_of 12 w))));
      }

  module _ {i rest : ℕ} {made : packing.Label} (x : Moved i rest made) where
    pub moved-step : (one next : packing.Label) → i < first + 12 → one ≡ packed (number (several 24 (to i) (rest % 32 % 32)))
        → next ≡ packed ((code made + code one) % 2 ^ 124) → Moved (i + 1) (rest / 32) next
    moved-step one next h e r =
        let more : first + 12 - i ≡ suc (first + 12 - (i + 1)) = omega (arith, x.reached) in
        let n = rw mod-mod at (code_of e) in
        let l = code_of r in
        let m = rw (more, weight-more to i (first + 12 - (i + 1)) rest, ← add-one i) at x.moved in
        record {
          reached = omega (arith, x.reached);
          within = omega arith;
          fits = omega arith;
          packs = r ∙ ap packed (sym l);
          moved = omega arith;
        }

    pub moved-early : rest ≡ 0 → made ≡ packed (weight to first (label_of 12 w) % 2 ^ 124)
    moved-early e =
        let m = rw e at x.moved in
        let z = weight-zero to i (first + 12 - i) in
        x.packs ∙ ap packed (omega (arith, x.fits))

    pub moved-end : first + 12 ≤ i → made ≡ packed (weight to first (label_of 12 w) % 2 ^ 124)
    moved-end h =
        let t : first + 12 - i ≡ 0 = omega arith in
        let m = rw t at x.moved in
        let z = weight-none to i rest in
        x.packs ∙ ap packed (omega (arith, x.fits))

-- A label renamed whose upper word is empty, and one whose words are renamed one after the other.
module _ (to : ℕ → ℕ) (a : packing.Label) where
  both : weight to 0 (label_of 24 (code a)) ≡ weight to 0 (label_of 12 a.lower) + weight to 12 (label_of 12 a.upper)
  both =
      let l = length-label_of 12 a.lower in
      let e : 0 + length (label_of 12 a.lower) ≡ 12 = omega arith in
      rw (label_of-code 12 a) (rw e at (weight-append to 0 (label_of 12 a.lower) (label_of 12 a.upper)))

  pub renamed-lower : a.upper ≡ 0 → packed (weight to 0 (label_of 12 a.lower) % 2 ^ 124) ≡ packed (weight to 0 (label_of 24 (code a)) % 2 ^ 124)
  renamed-lower e =
      let z : weight to 12 (label_of 12 a.upper) ≡ 0 = rw e (weight-zero to 12 12) in
      rw (both, z, add-zero (weight to 0 (label_of 12 a.lower)))

  pub renamed-words : {lower upper all : packing.Label} → lower ≡ packed (weight to 0 (label_of 12 a.lower) % 2 ^ 124)
      → upper ≡ packed (weight to 12 (label_of 12 a.upper) % 2 ^ 124) → all ≡ packed ((code lower + code upper) % 2 ^ 124)
      → all ≡ packed (weight to 0 (label_of 24 (code a)) % 2 ^ 124)
  renamed-words p q r =
      r ∙ ap packed (rw (code_of p, code_of q, both) (sym (add-mod (weight to 0 (label_of 12 a.lower)) (weight to 12 (label_of 12 a.upper)) (2 ^ 124))))
