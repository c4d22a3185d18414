-- The rules of comm, taken three words at a time as two labels.
-- Assumes nothing.
use mathlib.Core.Path.{◌≡◌, refl, sym, ap, ap₂, ◌∙◌}
use mathlib.Core.List.{List, [], ◌∷◌, ◌++◌}
use Prim.Native.Nat.{ℕ, zero, suc, ◌+◌, ◌-◌, ◌*◌, ◌/◌, ◌%◌, ◌^◌, ◌≤◌, ◌<◌, zero-le}
use native.Mathlib.Nat.{zero-add, sub-zero, zero-sub, suc-sub-suc}
use native.Mathlib.Numerals.{add-one, add-two, add-three}
use native.Mathlib.Omega.{arith}
use lib.ListN.{length, get_or, take, drop, set, replicate, length-append, length-take, length-drop, length-replicate}
use lib.Seq.{drop-cons, take_all, take_at, paste, paste-zero, paste-suc}
use Rattle.meaning.specs.Labels.{lower_word, number, single}
use Rattle.labels.specs.declared.Label.{Label}
use Rattle.labels.specs.Packing.{code, packed}
use Rattle.labels.proofs.Codes.{code_of}
use Rattle.areas.specs.Rows.{held}
use Rattle.areas.proofs.Held.{held-take}
use Rattle.ordering.specs.Ordering.{rules_for, list_for}
use Rattle.ordering.proofs.SameRules.{taken-for}
use Rattle.operators.specs.Exchanging.{exchange_labels, exchange_list}
use Rattle.operators.specs.Operators.{rule_list}

pub length_exchanged : (ws : List ℕ) → length (exchange_labels ws) ≡ length ws / 3 * 2
unfolding exchange_labels
length_exchanged [] = refl
length_exchanged (a ∷ []) = refl
length_exchanged (a ∷ b ∷ []) = refl
length_exchanged (a ∷ b ∷ c ∷ ws) = omega (arith, length_exchanged ws)

abbrev pub zeros : ℕ → List ℕ
zeros n = replicate n 0

length-zeros : (n : ℕ) → length (zeros n) ≡ n
length-zeros n = length-replicate {A = ℕ} n 0

-- The first i labels of a list stand in room for sixteen, before zeros.
pub record Put (xs list : List ℕ) (i : ℕ) : Type 0 where
  pub words : list ≡ paste (zeros 16) 0 xs i
  pub within : i ≤ length xs

-- one label more, where it is the first of those that are to come
put_next : (xs list : List ℕ) (i w : ℕ) (more : List ℕ) → length xs ≤ 16 → Put xs list i → drop i xs ≡ w ∷ more
    → Put xs (set list i w) (i + 1) × (drop (i + 1) xs ≡ more)
put_next xs list i w more short x e =
    let within : i < length xs = omega (arith, ap length e, length-drop i xs) in
    let first = sym e ∙ drop-cons xs i 0 within in
    let next = paste-suc (zeros 16) 0 xs i 0 (omega (arith, length-zeros 16)) within in (
      record {
        words =
            ap₂ (λ (l : List ℕ) (v : ℕ). set l i v) x.words (cc)
            ∙ ap (λ (n : ℕ). set (paste (zeros 16) 0 xs i) n (get_or xs i 0)) (sym (zero-add i)) ∙ next ∙ ap (paste (zeros 16) 0 xs) (sym (add-one i));
        within = omega arith;
      },
      rw (add-one i) (cc),
    )

-- How far the rules have been taken over: so many words looked at, and i labels put.
pub record Over (ws list : List ℕ) (at i : ℕ) : Type 0 where
  pub put : Put (exchange_labels ws) list i
  pub left : drop i (exchange_labels ws) ≡ exchange_labels (drop at ws)
  pub short : length (exchange_labels ws) ≤ 16
  pub read : at ≤ length ws

pub over-few : {ws list : List ℕ} {at i : ℕ} → Over ws list at i → i ≤ 16
over-few o = omega (arith, o.put.within, o.short)

pub over-start : (ws : List ℕ) {list : List ℕ} → length ws ≤ 24 → list ≡ zeros 16 → Over ws list 0 0
over-start ws h e =
    record {
      put = record { words = e ∙ paste-zero (zeros 16) 0 (exchange_labels ws); within = zero-le };
      left = refl;
      short = omega (arith, length_exchanged ws);
      read = zero-le;
    }

three : (ws : List ℕ) (i : ℕ) → i + 2 < length ws → drop i ws ≡ get_or ws i 0 ∷ get_or ws (i + 1) 0 ∷ get_or ws (i + 2) 0 ∷ drop (i + 3) ws
three ws i h =
    rw (add-one i, add-two i, add-three i)
    (drop-cons ws i 0 (omega arith) ∙ ap {B = List ℕ} (λ r. get_or ws i 0 ∷ r)
    (drop-cons ws (suc i) 0 (omega arith) ∙ ap {B = List ℕ} (λ r. get_or ws (suc i) 0 ∷ r) (drop-cons ws (suc (suc i)) 0 (omega arith))))

left-code : (lower upper : ℕ) → code (record { lower = lower % 2 ^ 60; upper = upper }) ≡ lower_word lower + 2 ^ 60 * upper
unfolding code
left-code lower upper = omega arith

-- the two labels of a rule are written
pub over-step : (ws : List ℕ) {list mid after : List ℕ} (at i : ℕ) {right : Label} → Over ws list at i → at + 2 < length ws
    → mid ≡ set list i (code (record { lower = get_or ws at 0 % 2 ^ 60; upper = get_or ws (at + 1) 0 }))
    → right ≡ packed (number (single 24 (get_or ws (at + 2) 0))) → after ≡ set mid (i + 1) (code right)
    → Over ws after (at + 3) (i + 2)
unfolding exchange_labels
over-step ws {list} {mid} {after} at i {right} o h e f g =
    let rest = exchange_labels (drop (at + 3) ws) in
    let left = lower_word (get_or ws at 0) + 2 ^ 60 * get_or ws (at + 1) 0 in
    let first = o.left ∙ ap exchange_labels (three ws at h) ∙ ap (λ (y : ℕ). left ∷ y ∷ rest) (sym (code_of f)) in
    let a = put_next (exchange_labels ws) list i left (code right ∷ rest) o.short o.put first in
    let b = put_next (exchange_labels ws) (set list i left) (i + 1) (code right) rest o.short a.0 a.1 in
    let written = g ∙ ap (λ (l : List ℕ). set l (i + 1) (code right)) (e ∙ ap (set list i) (left-code (get_or ws at 0) (get_or ws (at + 1) 0))) in
    let k : i + 1 + 1 ≡ i + 2 = omega arith in
    rw written (record { put = rw k at b.0; left = rw k at b.1; short = o.short; read = omega arith })

drop-zeros : (n k : ℕ) → drop k (zeros n) ≡ zeros (n - k)
drop-zeros n zero = rw (sub-zero n)
drop-zeros zero (suc k) = rw (zero-sub (suc k))
drop-zeros (suc n) (suc k) = rw (suc-sub-suc n k) (drop-zeros n k)

-- a rule that is not whole gives nothing
short-end : (ws : List ℕ) (i : ℕ) → length ws ≤ i + 2 → exchange_labels (drop i ws) ≡ []
unfolding exchange_labels
short-end [] zero h = refl
short-end [] (suc i) h = refl
short-end (a ∷ []) zero h = refl
short-end (a ∷ b ∷ []) zero h = refl
short-end (a ∷ b ∷ c ∷ ws) zero h = absurd (omega arith)
short-end (a ∷ ws) (suc i) h = short-end ws i (omega arith)

pub over-end : (ws list : List ℕ) (at i : ℕ) → Over ws list at i → length ws ≤ at + 2 → list ≡ exchange_list ws
over-end ws list at i o h =
    let xs = exchange_labels ws in
    let none : drop i xs ≡ [] = o.left ∙ short-end ws at h in
    let most : length xs ≤ i = omega (arith, ap length none, length-drop i xs) in
    let all : 0 + i ≡ length xs = let l = o.put.within in omega arith in
    o.put.words ∙ ap₂ (λ (l m : List ℕ). l ++ m) (take_all i xs most) (ap (λ (n : ℕ). drop n (zeros 16)) all ∙ drop-zeros 16 (length xs))

-- The labels that are lent of the sixteen: as many as the rules have.
pub first-few : (ws rs : List ℕ) → rs ≡ take 24 ws → length rs ≤ 24
first-few ws rs e = omega (arith, ap length e, length-take 24 ws)

lent-within : (rs : List ℕ) → length (exchange_labels rs) ≤ length (exchange_list rs)
lent-within rs = omega (arith, length-append (exchange_labels rs) (zeros (16 - length (exchange_labels rs))))

pub lent-rules : (labels ws list chosen : List ℕ) {rs : List ℕ} → rs ≡ take 24 ws → held list ≡ exchange_list rs
    → held chosen ≡ list_for labels (length rs / 3 * 2) (held list)
    → held (take (2 * (length rs / 3 * 2)) chosen) ≡ rules_for labels (rule_list ws)
lent-rules labels ws list chosen {rs} e f g =
    let xs = exchange_labels rs in
    let end = length rs / 3 * 2 in
    let k : length xs ≡ end = length_exchanged rs in
    held-take end chosen
    ∙ ap (take end) (g ∙ ap (list_for labels end) f)
    ∙ taken-for labels end (exchange_list rs) (omega (arith, lent-within rs))
    ∙ ap (rules_for labels) (take_at xs (zeros (16 - length xs)) end k)
    ∙ ap (λ (l : List ℕ). rules_for labels (exchange_labels l)) e
