-- What comes of a state, rule by rule: the bound on the applications loses nothing, since each leaves less.
-- Assumes nothing.
use Rattle.std.specs.Prelude.{Some}
use mathlib.Core.Path.{◌≡◌, refl, sym, ap, ap₂, ◌∙◌}
use mathlib.Core.Bool.{Bool, true, false, not, ◌&&◌}
use mathlib.Core.List.{List, [], ◌∷◌, ◌++◌}
use Prim.Native.Nat.{ℕ, zero, suc, ◌-◌, ◌/◌, ◌%◌, ◌^◌, ◌≤◌, ◌<◌}
use native.Mathlib.Omega.{arith}
use lib.Dec.{T, leb, ltb, eqb, leb→le, ltb→lt}
use Rattle.meaning.specs.Labels.{Label, label_of, minus, inside}
use Rattle.meaning.proofs.Tests.{and_left, and_right}
use Rattle.labels.specs.Bags.{bag}
use Rattle.labels.specs.Packing.{packed}
use Rattle.labels.proofs.Codes.{code-packed}
use Rattle.labels.proofs.Words.{fewer_digits}
use Rattle.sets.specs.Inserting.{present}
use Rattle.rules.specs.declared.State.{State}
use Rattle.rules.specs.Rules.{Exchange, replaced_by, applies, pick_step, step_of}
use Rattle.choices.specs.Following.{after, each_rule, followed, comes_of}

-- A number less one that lies inside it: no digit is borrowed from.
pub minus-digits : (k small large : ℕ) → small < 32 ^ k → T (inside (label_of k small) (label_of k large))
    → (small ≤ large) × (label_of k (large - small) ≡ minus (label_of k large) (label_of k small))
unfolding label_of inside minus
minus-digits zero small large h t = let k : small < 1 = h in (omega arith, refl)
minus-digits (suc k) small large h t =
    let first = leb (small % 32) (large % 32) in
    let more = inside (label_of k (small / 32)) (label_of k (large / 32)) in
    let l = leb→le (small % 32) (large % 32) (and_left first more t) in
    let x = minus-digits k (small / 32) (large / 32) (fewer_digits k small h) (and_right first more t) in
    let digit : (large - small) % 32 ≡ large % 32 - small % 32 = let y = x.0 in omega arith in
    let others : (large - small) / 32 ≡ large / 32 - small / 32 = let y = x.0 in omega arith in
    (let y = x.0 in omega arith, ap₂ (λ (n : ℕ) (a : Label). n ∷ a) digit (ap (label_of k) others ∙ x.1))

-- A rule that applies: what it takes, and what it leaves.
pub record Applies (r : Exchange) (rest : ℕ) : Type 0 where
  pub some : 0 < r.left
  pub fits : r.left < 2 ^ 124
  pub lies : T (inside (bag r.left) (bag rest))
  pub left : bag (rest - r.left) ≡ minus (bag rest) (bag r.left)
  pub less : rest - r.left < rest

not-zero : (n : ℕ) → T (not (eqb n 0)) → 0 < n
not-zero zero t = absurd t
not-zero (suc n) t = omega arith

pub applies→ : (r : Exchange) (rest : ℕ) → applies r rest ≡ true → Applies r rest
applies→ r rest e =
    let some = not (eqb r.left 0) in
    let fits = ltb r.left (2 ^ 124) in
    let lies = inside (bag r.left) (bag rest) in
    let t : T (some && (fits && lies)) = rw e tt in
    let s = not-zero r.left (and_left some (fits && lies) t) in
    let w = ltb→lt r.left (2 ^ 124) (and_left fits lies (and_right some (fits && lies) t)) in
    let i = and_right fits lies (and_right some (fits && lies) t) in
    let x = minus-digits 25 r.left rest (omega arith) i in
    record { some = s; fits = w; lies = i; left = x.1; less = let y = x.0 in omega arith }

-- what goes on from a state goes by the numbers of its labels
pub after-packed : (more : ℕ → ℕ → List ℕ) (rest sum : ℕ) → after more (Some (record { rest = packed rest; sum = packed sum })) ≡ more rest sum
after-packed more rest sum = rw (code-packed rest, code-packed sum)

module _ (all : List ℕ) where
  -- what a rule leads to, by whether it applies
  abbrev pub next : Exchange → ℕ → ℕ → State
  next r rest sum = record { rest = packed (rest - r.left); sum = packed (replaced_by r sum) }

  module _ (f g : List Exchange → ℕ → ℕ → List ℕ) (rest : ℕ) (same : (rs : List Exchange) (less sum : ℕ) → less < rest → f rs less sum ≡ g rs less sum) where
    step_same : (rs : List Exchange) (r : Exchange) (sum : ℕ) → after (f rs) (step_of all r rest sum) ≡ after (g rs) (step_of all r rest sum)
    step_same rs r sum = go (applies r rest) refl
      where
        go : (t : Bool) → applies r rest ≡ t → after (f rs) (step_of all r rest sum) ≡ after (g rs) (step_of all r rest sum)
        go false e = rw e
        go true e = rw e (known (present all (replaced_by r sum)))
          where
            known : (k : Bool) → after (f rs) (pick_step true k (next r rest sum)) ≡ after (g rs) (pick_step true k (next r rest sum))
            known true = refl
            known false =
                after-packed (f rs) (rest - r.left) (replaced_by r sum)
                ∙ same rs (rest - r.left) (replaced_by r sum) (applies→ r rest e).less
                ∙ sym (after-packed (g rs) (rest - r.left) (replaced_by r sum))

    each_same : (rs : List Exchange) (sum : ℕ) → each_rule f all rs rest sum ≡ each_rule g all rs rest sum
    unfolding each_rule
    each_same [] sum = refl
    each_same (r ∷ rs) sum = ap₂ (λ (x y : List ℕ). x ++ y) (step_same (r ∷ rs) r sum) (each_same rs sum)

  -- where nothing is left no rule applies
  each_none : (f : List Exchange → ℕ → ℕ → List ℕ) (rs : List Exchange) (sum : ℕ) → each_rule f all rs 0 sum ≡ []
  unfolding each_rule
  each_none f [] sum = refl
  each_none f (r ∷ rs) sum = go (applies r 0) refl (each_none f rs sum)
    where
      go : (t : Bool) → applies r 0 ≡ t → each_rule f all rs 0 sum ≡ [] → after (f (r ∷ rs)) (step_of all r 0 sum) ++ each_rule f all rs 0 sum ≡ []
      go false e none = rw e none
      go true e none = absurd (let l = (applies→ r 0 e).less in omega arith)

  none_left : (more : ℕ) (rs : List Exchange) (rest sum : ℕ) → rest ≡ 0 → followed more all rs rest sum ≡ sum ∷ []
  unfolding followed
  none_left zero rs rest sum e = refl
  none_left (suc more) rs rest sum e = rw e (ap (λ (l : List ℕ). sum ∷ l) (each_none (followed more all) rs sum))

  followed_same : (f g : ℕ) (rs : List Exchange) (rest sum : ℕ) → rest ≤ f → rest ≤ g → followed f all rs rest sum ≡ followed g all rs rest sum
  unfolding followed
  followed_same zero g rs rest sum h k = sym (none_left g rs rest sum (omega arith))
  followed_same (suc f) zero rs rest sum h k = none_left (suc f) rs rest sum (omega arith)
  followed_same (suc f) (suc g) rs rest sum h k =
      ap (λ (l : List ℕ). sum ∷ l)
      (each_same (followed f all) (followed g all) rest (λ qs less s l. followed_same f g qs less s (omega arith) (omega arith)) rs sum)

  -- The label of a state, and then what comes of each state that a rule leads to.
  pub comes-step : (rs : List Exchange) (rest sum : ℕ) → comes_of all rs rest sum ≡ sum ∷ each_rule (comes_of all) all rs rest sum
  unfolding followed
  comes-step rs zero sum = ap (λ (l : List ℕ). sum ∷ l) (sym (each_none (comes_of all) rs sum))
  comes-step rs (suc rest) sum =
      ap (λ (l : List ℕ). sum ∷ l)
      (each_same (followed rest all) (comes_of all) (suc rest) (λ qs less s l. followed_same rest less qs less s (omega arith) (omega arith)) rs sum)
