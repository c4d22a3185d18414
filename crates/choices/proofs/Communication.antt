-- Communication on the numbers of labels. Of each label of an operand what comes of it is listed, but for what comes of another
-- label of the operand; and over all labels of the operand nothing is missing.
-- Assumes nothing.
use mathlib.Core.Path.{◌≡◌, refl, sym, ap, subst, ◌∙◌}
use mathlib.Core.Logic.{◌⊎◌, inl, inr, ◌↔◌}
use mathlib.Core.Bool.{Bool, true, false, ◌&&◌}
use mathlib.Core.List.{List, [], ◌∷◌, ◌++◌, map, map-append}
use Prim.Native.Nat.{ℕ, zero, suc, ◌+◌, ◌-◌, ◌%◌, ◌^◌, ◌≤◌, ◌<◌}
use native.Mathlib.Nat.{mod-eq_of_lt, le_refl}
use native.Mathlib.Omega.{arith}
use borrow.Author.Tests.{ne_eqb, lt-ltb}
use lib.Dec.{T, ltb, eqb, ltb→lt, eqb→eq}
use lib.ListN.{length, get_or}
use Rattle.meaning.specs.Labels.{Label, size, number, single, plus, minus, inside}
use Rattle.meaning.specs.Sets.{◌∈◌, ascending, spread}
use Rattle.meaning.specs.Descriptions.{Rule, comm}
use Rattle.meaning.specs.Legal.{Each, LegalRule}
use Rattle.meaning.specs.Rounds.{image}
use Rattle.meaning.specs.Runs.{Communicates}
use Rattle.meaning.proofs.Tests.{and_left, and_right}
use Rattle.meaning.proofs.Bags.{plus_none, number-plus, inside-plus}
use Rattle.meaning.proofs.Ascent.{Within}
use Rattle.meaning.proofs.Digits.{number-injective}
use Rattle.meaning.proofs.Members.{in-at, in-append, in-spread, in-spread→, in-map→}
use Rattle.meaning.proofs.Operators.{rule-legal, set-aside, bound-loses-nothing}
use Rattle.labels.specs.Packing.{packed}
use Rattle.labels.proofs.Refinement.{Packs, packs-small, number_fits, inside-number, difference-number}
use Rattle.areas.proofs.Entries.{rule_labels}
use Rattle.sets.specs.Building.{each}
use Rattle.sets.specs.Inserting.{place_of, present}
use Rattle.sets.proofs.Refinement.{AllPack, each-outcome, outcome-same}
use Rattle.sets.proofs.Outcomes.{Anything, Result, entered-outcome}
use Rattle.rules.specs.Rules.{Exchange, exchanges_in, replaced_by, pick_step, step_of}
use Rattle.choices.specs.Following.{after, each_rule, followed, entered, closed}
use Rattle.choices.proofs.Reading.{backwards, backwards-in, in-backwards, exchange, rules-read}
use Rattle.choices.proofs.Unfolding.{after-packed}
use Rattle.choices.proofs.InOrder.{taken, given, unless, leads, each_of, whole, OfRules, Packed, next-packed, Comes, whole-sound, complete}

-- A label has no more actions than its number, so the number bounds the applications, and that of a left side is not 0.
size_below : (a : Label) → size a ≤ number a
unfolding size number
size_below [] = omega arith
size_below (x ∷ a) = omega (arith, size_below a)

module _ (names : ℕ) (few : names ≤ 24) (rs : List Rule) (legal : Each (LegalRule names) rs) (all : List ℕ) where
  abbrev listed : Label → Bool
  listed a = present all (number a)

  abbrev numbers_of : List Rule → List Exchange
  numbers_of = map (exchange names)

  abbrev State : Label → Label → Type 0
  State = Packed names listed rs legal

  left-packs : (r : Rule) → r ∈ rs → Packs names r.left
  left-packs r m = let l = rule-legal names rs legal r m in record { wide = l.0.0; few = l.0.2 }

  left-takes : (r : Rule) → r ∈ rs → eqb (number r.left) 0 ≡ false
  left-takes r m = ne_eqb (number r.left) 0 (λ e. omega (arith, (rule-legal names rs legal r m).1, size_below r.left))

  left-fits : (r : Rule) → r ∈ rs → ltb (number r.left) (2 ^ 124) ≡ true
  left-fits r m = lt-ltb (number r.left) (2 ^ 124) (omega (arith, number_fits r.left few (left-packs r m)))

  next-number : (r : Rule) → r ∈ rs → (rest aside : Label) → State rest aside → T (inside r.left rest)
      → replaced_by (exchange names r) (number (plus rest aside)) ≡ number (plus (taken r rest) (given names r aside))
  next-number r m rest aside p t =
      let sum = plus rest aside in
      let one = single names r.right in
      let next = plus (taken r rest) (given names r aside) in
      let e : number sum - number r.left + number one ≡ number next =
      ap (λ (n : ℕ). n + number one) (difference-number sum r.left (inside-plus r.left rest aside t)) ∙ sym (number-plus (minus sum r.left) one)
      ∙ ap number (set-aside names r rest aside t) in
      ap (λ (n : ℕ). n % 2 ^ 124) e ∙ mod-eq_of_lt (omega (arith, number_fits next few (next-packed names listed rs legal r m rest aside p t).label))

  -- The walk on numbers is that on labels.
  abbrev Agrees : (List Exchange → ℕ → ℕ → List ℕ) → (List Rule → Label → Label → List Label) → Type 0
  Agrees f g = (rules : List Rule) → OfRules names listed rs legal rules → (rest aside : Label) → State rest aside
      → f (numbers_of rules) (number rest) (number (plus rest aside)) ≡ map number (g rules rest aside)

  module _ (more : List Exchange → ℕ → ℕ → List ℕ) (moreOf : List Rule → Label → Label → List Label) (agrees : Agrees more moreOf) where
    step-agrees : (r : Rule) (later : List Rule) → OfRules names listed rs legal (r ∷ later) → (rest aside : Label) → State rest aside
        → after (more (numbers_of (r ∷ later))) (step_of all (exchange names r) (number rest) (number (plus rest aside)))
        ≡ map number (leads names listed r rest aside (moreOf (r ∷ later) (taken r rest) (given names r aside)))
    step-agrees r later w rest aside p = tested (inside r.left rest) refl
      where
        listed-r : r ∈ rs
        listed-r = w r (inl refl)

        tested : (t : Bool) → inside r.left rest ≡ t
            → after (more (numbers_of (r ∷ later))) (step_of all (exchange names r) (number rest) (number (plus rest aside)))
            ≡ map number (leads names listed r rest aside (moreOf (r ∷ later) (taken r rest) (given names r aside)))
        tested false e = rw (left-takes r listed-r, left-fits r listed-r, inside-number names few r.left rest (left-packs r listed-r) p.left, e)
        tested true e =
            let t : T (inside r.left rest) = rw e tt in
            let x = next-packed names listed rs legal r listed-r rest aside p t in
            rw (
              left-takes r listed-r,
              left-fits r listed-r,
              inside-number names few r.left rest (left-packs r listed-r) p.left,
              e,
              next-number r listed-r rest aside p t,
              difference-number rest r.left t,
            )
            (asked (listed (plus (taken r rest) (given names r aside))) x)
          where
            asked : (k : Bool) → State (taken r rest) (given names r aside)
                → after (more (numbers_of (r ∷ later))) (pick_step true k (record {
                  rest = packed (number (taken r rest));
                  sum = packed (number (plus (taken r rest) (given names r aside)));
                }))
                ≡ map number (unless names listed true k (moreOf (r ∷ later) (taken r rest) (given names r aside)))
            asked true x = refl
            asked false x =
                after-packed (more (numbers_of (r ∷ later))) (number (taken r rest)) (number (plus (taken r rest) (given names r aside)))
                ∙ agrees (r ∷ later) w (taken r rest) (given names r aside) x

    each-agrees : Agrees (each_rule more all) (each_of names listed moreOf)
    unfolding each_rule each_of
    each-agrees [] w rest aside p = refl
    each-agrees (r ∷ later) w rest aside p =
        rw (map-append, step-agrees r later w rest aside p, each-agrees later (λ q m. w q (inr m)) rest aside p)

  followed-agrees : (depth : ℕ) → Agrees (followed depth all) (whole names listed depth)
  unfolding followed whole
  followed-agrees zero rules w rest aside p = refl
  followed-agrees (suc depth) rules w rest aside p =
      ap (λ (l : List ℕ). number (plus rest aside) ∷ l)
      (each-agrees (followed depth all) (whole names listed depth) (followed-agrees depth) rules w rest aside p)

-- A number that is found stands in the list.
present-in : (s : List ℕ) (w : ℕ) → present s w ≡ true → w ∈ s
present-in s w e =
    let p = place_of s w in
    let t : T (ltb p (length s) && eqb (get_or s p 0) w) = rw e tt in
    let l = ltb→lt p (length s) (and_left (ltb p (length s)) (eqb (get_or s p 0) w) t) in
    subst (λ (v : ℕ). v ∈ s) (eqb→eq (get_or s p 0) w (and_right (ltb p (length s)) (eqb (get_or s p 0) w) t)) (in-at s p 0 l)

-- The labels of an operand through comm.
module _ (names : ℕ) (few : names ≤ 24) (rs : List Rule) (legal : Each (LegalRule names) rs) (N : List Label) (packs : AllPack names N) where
  abbrev numbers : List ℕ
  numbers = map number N

  abbrev known : Label → Bool
  known = listed names few rs legal numbers

  itself : (a : Label) → Packs names a → Packed names known rs legal a []
  itself a p = record { left = p; label = subst (Packs names) (sym (plus_none a)) p }

  listed-there : (a : Label) → Packs names a → known a ≡ true → a ∈ N
  listed-there a p e =
      let x = in-map→ number N (number a) (present-in numbers (number a) e) in
      let q = packs x.source x.there in
      subst (λ (b : Label). b ∈ N) (sym (number-injective a x.source (packs-small p) (packs-small q) (p.wide ∙ sym q.wide) x.becomes)) x.there

  abbrev image' : Label → List Label
  image' = image names (comm rs)

  image-is : (a b : Label) → (b ∈ image' a) ↔ Communicates names rs a [] b
  image-is a b = bound-loses-nothing names rs legal (size a) a [] b (le_refl (size a))

  moves : (K L : List Label) → Within K L → Within L K → Anything K → Anything L
  moves K L w v i = tt

  -- The rules are followed in some order, which may have one twice; what is listed of a label depends on it.
  module _ (qs : List Rule) (of : (r : Rule) → r ∈ qs → r ∈ rs) (all : (r : Rule) → r ∈ rs → r ∈ qs) where
    abbrev followed_rules : List Exchange
    followed_rules = map (exchange names) qs

    pub gives-by : Label → List Label
    gives-by a = whole names known (number a) qs a []

    gives-sound : (a : Label) → Packs names a → (b : Label) → b ∈ gives-by a → Comes names known rs legal a [] b
    unfolding gives-by
    gives-sound a p b m = whole-sound names known rs legal (number a) qs of a [] (itself a p) b m

    given-numbers : (a : Label) → Packs names a → followed (number a) numbers followed_rules (number a) (number a) ≡ map number (gives-by a)
    unfolding gives-by
    given-numbers a p =
        ap (λ (x : Label). followed (number a) numbers followed_rules (number a) (number x)) (sym (plus_none a))
        ∙ followed-agrees names few rs legal numbers (number a) qs of a [] (itself a p)

    module _ (room : ℕ) where
      each-given : (a : Label) (M : List Label) → Packs names a → AllPack names M
          → Result names room (gives-by a ++ M) (closed room numbers followed_rules (number a) (map number (ascending M)))
      each-given a M p q =
          subst (λ (l : List ℕ). Result names room (gives-by a ++ M) (entered room l (map number (ascending M)))) (sym (given-numbers a p))
          (entered-outcome names room (gives-by a) M (λ c m. (gives-sound a p c m).packs) q)

      rows-given : (l M : List Label) → AllPack names l → AllPack names M
          → Result names room (spread gives-by l ++ M) (each (closed room numbers followed_rules) (map number l) (map number (ascending M)))
      rows-given l M p q = each-outcome names room Anything moves (closed room numbers followed_rules) gives-by (λ a K r s i. each-given a K r s) l M p q tt

    -- Nothing is missing: by the size of the labels, since what comes of another label of the operand comes of a smaller one.
    module _ (In : Label → Type 0)
        (either : (a : Label) → a ∈ N → ((b : Label) → b ∈ gives-by a → In b) ⊎ ((b : Label) → Communicates names rs a [] b → In b)) where
      none-missing : (most : ℕ) (a : Label) → size a < most → a ∈ N → (b : Label) → Communicates names rs a [] b → In b
      unfolding gives-by
      none-missing zero a h m b c = elim h [ ]
      none-missing (suc most) a h m b c = elim (either a m) [
        | inr old ↦ old b c
        | inl new ↦ elim (complete names known rs legal (number a) qs of all a [] (itself a (packs a m)) (size_below a) b c) [
          | inl k ↦ new b k
          | inr x ↦ none-missing most x.label (omega (arith, x.less, ap size (plus_none a))) (listed-there x.label x.packs x.itself) b x.by
        ]
      ]

    -- Where the set has what comes of some labels of the operand, and the others are gone through, it becomes what comes of all.
    module _ (l L M : List Label) (new : Within l N) (split : (a : Label) → a ∈ N → (a ∈ l) ⊎ (a ∈ L)) (old : Within (spread image' L) M)
        (there : Within M (spread image' N)) where
      outer : Within (spread gives-by l ++ M) (spread image' N)
      outer b m = elim ((in-append b (spread gives-by l) M).0 m) [
        | inl k ↦
            let x = in-spread→ gives-by l b k in
            let n = new x.source x.there in
            in-spread image' N x.source b n ((image-is x.source b).1 (gives-sound x.source (packs x.source n) b x.gives).by)
        | inr k ↦ there b k
      ]

      abbrev In : Label → Type 0
      In b = b ∈ (spread gives-by l ++ M)

      either' : (a : Label) → a ∈ N → ((b : Label) → b ∈ gives-by a → In b) ⊎ ((b : Label) → Communicates names rs a [] b → In b)
      either' a m = elim (split a m) [
        | inl k ↦ inl (λ b j. (in-append b (spread gives-by l) M).1 (inl (in-spread gives-by l a b k j)))
        | inr k ↦ inr (λ b c. (in-append b (spread gives-by l) M).1 (inr (old b (in-spread image' L a b k ((image-is a b).1 c)))))
      ]

      inner : Within (spread image' N) (spread gives-by l ++ M)
      inner b m =
          let x = in-spread→ image' N b m in
          none-missing In either' (suc (size x.source)) x.source (omega arith) x.there b ((image-is x.source b).0 x.gives)

      pub outcome-by : (room : ℕ) → AllPack names M
          → Result names room (spread image' N) (each (closed room numbers followed_rules) (map number l) (map number (ascending M)))
      outcome-by room q =
          outcome-same names room Anything moves (spread gives-by l ++ M) (spread image' N) _ outer inner
          (rows-given room l M (λ a m. packs a (new a m)) q)

    -- The same apart from the set: what is listed of the new labels is of what comes of all, and all of that but for what comes of the
    -- others.
    module _ (l L : List Label) (new : Within l N) (old : Within L N) (split : (a : Label) → a ∈ N → (a ∈ l) ⊎ (a ∈ L)) where
      of_others : Within (spread image' L) (spread image' N)
      of_others b m = let x = in-spread→ image' L b m in in-spread image' N x.source b (old x.source x.there) x.gives

      pub there-by : Within (spread gives-by l) (spread image' N)
      there-by b m =
          outer l L (spread image' L) new split (λ a k. k) of_others b ((in-append b (spread gives-by l) (spread image' L)).1 (inl m))

      pub back_by : (b : Label) → b ∈ spread image' N → (b ∈ spread gives-by l) ⊎ (b ∈ spread image' L)
      back_by b m =
          (in-append b (spread gives-by l) (spread image' L)).0 (inner l L (spread image' L) new split (λ a k. k) of_others b m)

      pub listed_by : (room : ℕ) → Result names room (spread gives-by l) (each (closed room numbers followed_rules) (map number l) [])
      unfolding ascending
      listed_by room =
          outcome-same names room Anything moves (spread gives-by l ++ []) (spread gives-by l) _
          (λ b m. elim ((in-append b (spread gives-by l) []).0 m) [ inl k ↦ k | inr k ↦ absurd k ])
          (λ b m. (in-append b (spread gives-by l) []).1 (inl m))
          (rows-given room l [] (λ a m. packs a (new a m)) (λ a m. absurd m))

  -- The rules as they stand in a list of labels.
  abbrev pub gives : Label → List Label
  gives = gives-by (backwards rs) (backwards-in rs) (in-backwards rs)

  module _ (l L M : List Label) (new : Within l N) (split : (a : Label) → a ∈ N → (a ∈ l) ⊎ (a ∈ L)) (old : Within (spread image' L) M)
      (there : Within M (spread image' N)) where
    pub comm-outcome : (room : ℕ) → AllPack names M
        → Result names room (spread image' N) (each (closed room numbers (exchanges_in (rule_labels names rs))) (map number l) (map number (ascending M)))
    comm-outcome room q = rw (rules-read names rs) (outcome-by (backwards rs) (backwards-in rs) (in-backwards rs) l L M new split old there room q)

  module _ (l L : List Label) (new : Within l N) (old : Within L N) (split : (a : Label) → a ∈ N → (a ∈ l) ⊎ (a ∈ L)) where
    pub comm-there : Within (spread gives l) (spread image' N)
    comm-there = there-by (backwards rs) (backwards-in rs) (in-backwards rs) l L new old split

    pub comm-back : (b : Label) → b ∈ spread image' N → (b ∈ spread gives l) ⊎ (b ∈ spread image' L)
    comm-back = back_by (backwards rs) (backwards-in rs) (in-backwards rs) l L new old split

    pub comm-listed : (room : ℕ)
        → Result names room (spread gives l) (each (closed room numbers (exchanges_in (rule_labels names rs))) (map number l) [])
    comm-listed room = rw (rules-read names rs) (listed_by (backwards rs) (backwards-in rs) (in-backwards rs) l L new old split room)
