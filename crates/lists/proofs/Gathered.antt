-- Entries with a sign between them, one after the other: what was read, and what is to come, are the whole list.
-- Assumes nothing.
use mathlib.Core.Path.{◌≡◌, refl, sym, ap, ◌∙◌}
use mathlib.Core.Bool.{Bool, true, false}
use mathlib.Core.List.{List, [], ◌∷◌, ◌++◌, map}
use Prim.Native.Nat.{ℕ, zero, suc, ◌+◌, ◌≤◌, ◌<◌}
use native.Mathlib.Omega.{arith}
use lib.ListN.{length, drop}
use lib.Seq.{append_snoc}
use Rattle.meaning.specs.Bytes.{Text}
use Rattle.grammar.specs.Text.{Past, past, stuck, onward, literal, byte, starts, separated_on, separated}
use Rattle.lists.specs.Tallies.{Said}
use Rattle.words.specs.Steps.{Stands}
use Rattle.lists.specs.Entries.{seen}
use Rattle.words.proofs.Rests.{sign-within, literal-more}

-- One entry, and what follows it.
abbrev with_first : {A : Type 0} → A → Past (List A) → Past (List A)
with_first a x = onward x (λ xs p. past (a ∷ xs) p)

abbrev following : {A : Type 0} → ℕ → (Text → Past A) → ℕ → Bool → A → Text → Past (List A)
following by item more true a r = onward (byte by r) (λ _ q. with_first a (separated_on by item more q))
following by item more false a r = past (a ∷ []) r

module _ {A : Type 0} (by : ℕ) (item : Text → Past A) (more : ℕ) where
  follows : (t : Bool) (a : A) (r : Text)
      → (elim t as (λ _. Past (List A)) [ true ↦ following by item more true a r | false ↦ past (a ∷ []) r ]) ≡ following by item more t a r
  follows true a r = refl
  follows false a r = refl

  stepped : (x : Past A)
      → onward x (λ a r. elim (starts by r) as (λ _. Past (List A)) [ true ↦ following by item more true a r | false ↦ past (a ∷ []) r ])
      ≡ onward x (λ a r. following by item more (starts by r) a r)
  stepped (past a r) = follows (starts by r) a r
  stepped (stuck r) = refl

  pub one_more : (s : Text) → separated_on by item (suc more) s ≡ onward (item s) (λ a r. following by item more (starts by r) a r)
  unfolding separated_on
  one_more s = stepped (item s)

-- Each entry as what it says.
module _ {A : Type 0} (say : A → Said) (by : ℕ) (item : Text → Past A) where
  abbrev each : List A → Text → Past (List Said)
  each xs r = past (map say xs) r

  first-too : (a : A) (x : Past (List A)) → with_first (say a) (onward x each) ≡ onward (with_first a x) each
  first-too a (past xs r) = refl
  first-too a (stuck r) = refl

  module _ (more : ℕ) (ih : (q : Text) → separated_on by (seen say item) more q ≡ onward (separated_on by item more q) each) where
    tail-too : (a : A) (x : Past (Unit {0}))
        → onward x (λ _ q. with_first (say a) (separated_on by (seen say item) more q))
        ≡ onward (onward x (λ _ q. with_first a (separated_on by item more q))) each
    tail-too a (past u q) = rw (ih q) (first-too a (separated_on by item more q))
    tail-too a (stuck q) = refl

    following-too : (t : Bool) (a : A) (r : Text) → following by (seen say item) more t (say a) r ≡ onward (following by item more t a r) each
    following-too true a r = tail-too a (byte by r)
    following-too false a r = refl

    item-too : (x : Past A)
        → onward (onward x (λ a r. past (say a) r)) (λ e r. following by (seen say item) more (starts by r) e r)
        ≡ onward (onward x (λ a r. following by item more (starts by r) a r)) each
    item-too (past a r) = following-too (starts by r) a r
    item-too (stuck r) = refl

  none-too : (s : Text) → separated_on by (seen say item) zero s ≡ onward (separated_on by item zero s) each
  unfolding separated_on
  none-too s = refl

  pub all-too : (more : ℕ) (s : Text) → separated_on by (seen say item) more s ≡ onward (separated_on by item more s) each
  all-too zero s = none-too s
  all-too (suc more) s = rw (one_more by (seen say item) more s, one_more by item more s) (item-too more (all-too more) (item s))

  totalled : (total : List Said → Said) (whole : List A → Said) → ((xs : List A) → whole xs ≡ total (map say xs))
      → (x : Past (List A))
      → onward (onward x each) (λ es r. past (total es) r) ≡ onward x (λ xs r. past (whole xs) r)
  totalled total whole h (past xs r) = rw (h xs)
  totalled total whole h (stuck r) = refl

  -- the whole list from what its entries say
  pub gathered : (total : List Said → Said) (whole : List A → Said) → ((xs : List A) → whole xs ≡ total (map say xs)) → (s : Text)
      → onward (separated by (seen say item) s) (λ es r. past (total es) r) ≡ seen whole (separated by item) s
  gathered total whole h s = rw (all-too (suc (length s)) s) (totalled total whole h (separated by item s))

-- A sign that stands there.
pub sign-passed : (by : ℕ) (line : Text) (next : ℕ) → starts by (drop next line) ≡ true
    → (next < length line) × (past tt (drop (next + 1) line) ≡ byte by (drop next line))
unfolding literal
sign-passed by line next e = (sign-within by line next e, literal-more by [] line next e)

-- How far a list was read, with one entry more to come.
pub record Progress (by : ℕ) (item : Text → Past Said) (line : Text) (at : ℕ) (es : List Said) : Type 0 where
  pub within : at ≤ length line
  pub more : ℕ
  pub enough : length line ≤ at + more
  pub rest : onward (separated_on by item (suc more) (drop at line)) (λ ds r. past (es ++ ds) r) ≡ separated by item line

same-on : (x : Past (List Said)) → onward x (λ ds r. past ([] ++ ds) r) ≡ x
same-on (past ds r) = refl
same-on (stuck r) = refl

snoc-on : (es : List Said) (e : Said) (x : Past (List Said))
    → onward x (λ ds r. past ((es ++ (e ∷ [])) ++ ds) r) ≡ onward (with_first e x) (λ ds r. past (es ++ ds) r)
snoc-on es e (past ds r) = ap (λ l. past l r) (append_snoc es e ds)
snoc-on es e (stuck r) = refl

pub begun : (by : ℕ) (item : Text → Past Said) (line : Text) → Progress by item line 0 []
begun by item line =
    record { within = omega arith; more = length line; enough = omega arith; rest = same-on (separated by item line) }

module _ {by : ℕ} {item : Text → Past Said} {line : Text} {at : ℕ} {es : List Said} (p : Progress by item line at es) where
  abbrev onto : List Said → Text → Past (List Said)
  onto ds r = past (es ++ ds) r

  -- what the next entry decides
  decides : {x : Past Said} → x ≡ item (drop at line)
      → onward (onward x (λ e r. following by item p.more (starts by r) e r)) onto ≡ separated by item line
  decides h =
      ap (λ y. onward (onward y (λ e r. following by item p.more (starts by r) e r)) onto) h
      ∙ ap (λ y. onward y onto) (sym (one_more by item p.more (drop at line)))
      ∙ p.rest

  pub list-stuck : {q : ℕ} {t : Text} → Stands line q (stuck t) (item (drop at line)) → Stands line q (stuck t) (separated by item line)
  list-stuck s = record { says = decides s.says; within = s.within }

  module _ {next : ℕ} {e : Said} (s : Stands line next (past e (drop next line)) (item (drop at line))) where
    pub list-ends : starts by (drop next line) ≡ false → Stands line next (past (es ++ (e ∷ [])) (drop next line)) (separated by item line)
    list-ends f =
        let d = decides s.says in
        record { says = rw f at d; within = s.within }

    taken-on : starts by (drop next line) ≡ true → (more : ℕ) → p.more ≡ suc more
        → onward (separated_on by item (suc more) (drop (next + 1) line)) (λ ds r. past ((es ++ (e ∷ [])) ++ ds) r) ≡ separated by item line
    taken-on f more m =
        let d = decides s.says in
        let d' = rw f at d in
        let d'' = rw (← (sign-passed by line next f).1) at d' in
        snoc-on es e (separated_on by item (suc more) (drop (next + 1) line)) ∙ rw m at d''

    pub list-goes-on : at ≤ next → starts by (drop next line) ≡ true → Progress by item line (next + 1) (es ++ (e ∷ []))
    list-goes-on h f = go p.more refl
      where
        room : next < length line
        room = (sign-passed by line next f).0

        go : (more : ℕ) → p.more ≡ more → Progress by item line (next + 1) (es ++ (e ∷ []))
        go zero m = absurd (let w = p.enough in let r = room in omega arith)
        go (suc more) m =
            record {
              within = let r = room in omega arith;
              more = more;
              enough = let w = p.enough in omega arith;
              rest = taken-on f more m;
            }

-- What a whole list says, once its entries are read.
pub stuck-with : {A : Type 0} {line : Text} {q : ℕ} {t : Text} {due : Past (List Said)} (total : List Said → A) → Stands line q (stuck t) due
    → Stands line q (stuck t) (onward due (λ es r. past (total es) r))
stuck-with total s = record { says = ap (λ d. onward d (λ es r. past (total es) r)) s.says; within = s.within }

pub ended-with : {A : Type 0} {line : Text} {q : ℕ} {t : Text} {es : List Said} {due : Past (List Said)} (total : List Said → A)
    → Stands line q (past es t) due
    → Stands line q (past (total es) t) (onward due (λ es r. past (total es) r))
ended-with total s = record { says = ap (λ d. onward d (λ es r. past (total es) r)) s.says; within = s.within }
