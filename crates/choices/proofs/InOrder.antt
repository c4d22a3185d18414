-- Rules taken in their order, each any number of times before the next: whatever rules give in any order, they give so. A label that
-- is reached gives by itself all that it gives as a state, for its rest lies inside it. So a walk that takes rules in their order and
-- leaves out what is followed by itself lists all that comes of a label, but for what comes of another one.
-- Assumes nothing.
use mathlib.Core.Path.{◌≡◌, refl, sym, ap, ap₂, subst, ◌∙◌}
use mathlib.Core.Logic.{◌⊎◌, inl, inr}
use mathlib.Core.Bool.{Bool, true, false}
use mathlib.Core.List.{List, [], ◌∷◌, ◌++◌}
use Prim.Native.Nat.{ℕ, zero, suc, ◌+◌, ◌≤◌, ◌<◌}
use native.Mathlib.Omega.{arith}
use lib.Dec.{T}
use lib.ListN.{length}
use Rattle.meaning.specs.Labels.{Label, size, single, plus, minus, inside}
use Rattle.meaning.specs.Sets.{◌∈◌}
use Rattle.meaning.specs.Descriptions.{Rule}
use Rattle.meaning.specs.Legal.{Each, LegalRule}
use Rattle.meaning.specs.Runs.{Communicates, enough, apply}
use Rattle.meaning.proofs.Bags.{plus_comm, plus_assoc, plus_none, inside-counts, counts-inside, inside-plus, count-minus, minus_plus, length-minus, size-minus}
use Rattle.meaning.proofs.Members.{in-append}
use Rattle.meaning.proofs.Operators.{replaced, length-replaced, fewer-left, rule-legal, set-aside}
use Rattle.labels.proofs.Refinement.{Packs}

-- What is left does not depend on which of two parts is taken first, and neither does whether they can be taken.
minus-swap : (a b c : Label) → minus (minus a b) c ≡ minus (minus a c) b
unfolding minus
minus-swap [] b c = refl
minus-swap (x ∷ a) [] [] = refl
minus-swap (x ∷ a) [] (z ∷ c) = refl
minus-swap (x ∷ a) (y ∷ b) [] = refl
minus-swap (x ∷ a) (y ∷ b) (z ∷ c) = ap₂ (λ (n : ℕ) (l : Label). n ∷ l) (omega arith) (minus-swap a b c)

inside-left : (q a l : Label) → T (inside q (minus a l)) → T (inside q a)
inside-left q a l t = counts-inside q a (λ n. omega (arith, inside-counts q (minus a l) t n, count-minus a l n))

inside-swap : (l q a : Label) → T (inside l a) → T (inside q (minus a l)) → T (inside l (minus a q))
inside-swap l q a t u =
    counts-inside l (minus a q) (λ n. omega (arith, inside-counts l a t n, inside-counts q (minus a l) u n, count-minus a l n, count-minus a q n))

plus-swap : (a b c : Label) → plus (plus a b) c ≡ plus (plus a c) b
plus-swap a b c = plus_assoc a b c ∙ ap (plus a) (plus_comm b c) ∙ sym (plus_assoc a c b)

-- What an application leaves.
abbrev pub taken : Rule → Label → Label
taken r rest = minus rest r.left

module _ (names : ℕ) where
  abbrev result : Rule → Label
  result r = single names r.right

  -- what is set aside after an application
  abbrev pub given : Rule → Label → Label
  given r aside = plus aside (result r)

  -- The first rule is applied once more, or is done with.
  data InOrder : List Rule → Label → Label → Label → Type 0 where
    ends : {rs : List Rule} {rest aside : Label} → InOrder rs rest aside (plus rest aside)
    takes : {r : Rule} {rs : List Rule} {rest aside b : Label} → T (inside r.left rest) → InOrder (r ∷ rs) (taken r rest) (given r aside) b
        → InOrder (r ∷ rs) rest aside b
    passes : {r : Rule} {rs : List Rule} {rest aside b : Label} → InOrder rs rest aside b → InOrder (r ∷ rs) rest aside b

  -- an application put before others, at its place among them
  once_more : {q r : Rule} {rs : List Rule} {rest aside rest' aside' b : Label} → r ≡ q → T (inside r.left rest) → rest' ≡ taken r rest
      → aside' ≡ given r aside → InOrder (q ∷ rs) rest' aside' b → InOrder (q ∷ rs) rest aside b
  once_more {q} {r} {rs} {rest} {aside} {rest'} {aside'} {b} e t f g o =
      takes (subst (λ (x : Rule). T (inside x.left rest)) e t)
      (subst (λ (x : Label). InOrder (q ∷ rs) x (given q aside) b) (f ∙ ap (λ (x : Rule). taken x rest) e)
      (subst (λ (x : Label). InOrder (q ∷ rs) rest' x b) (g ∙ ap (λ (x : Rule). given x aside) e) o))

  alone : (rs : List Rule) (r : Rule) {rest aside rest' aside' : Label} → r ∈ rs → T (inside r.left rest)
      → rest' ≡ taken r rest → aside' ≡ given r aside → InOrder rs rest aside (plus rest' aside')
  alone [] r {rest = rest} {aside = aside} x4 t f g = elim x4 [ ]
  alone (q ∷ rs) r (inl e) t f g = once_more e t f g ends
  alone (q ∷ rs) r (inr m) t f g = passes (alone rs r m t f g)

  put-before : {rs : List Rule} {rest aside rest' aside' b : Label} → InOrder rs rest' aside' b → (r : Rule) → r ∈ rs → T (inside r.left rest)
      → rest' ≡ taken r rest → aside' ≡ given r aside → InOrder rs rest aside b
  put-before (ends {rs = rs}) r m t f g = alone rs r m t f g
  put-before (passes o) r (inl e) t f g = once_more e t f g (passes o)
  put-before (passes o) r (inr m) t f g = passes (put-before o r m t f g)
  put-before (takes u o) r (inl e) t f g = once_more e t f g (takes u o)
  put-before {rest = rest} {aside} (takes {r = q} u o) r (inr m) t f g =
      let v : T (inside q.left (taken r rest)) = subst (λ (x : Label). T (inside q.left x)) f u in
      takes (inside-left q.left rest r.left v)
      (put-before o r (inr m) (inside-swap r.left q.left rest t v) (ap (taken q) f ∙ minus-swap rest r.left q.left)
      (ap (given q) g ∙ plus-swap aside (result r) (result q)))

  module _ (rs : List Rule) where
    -- where the rules are among others, in the order of these
    in_order : {rules : List Rule} {rest aside b : Label} → ((r : Rule) → r ∈ rs → r ∈ rules) → Communicates names rs rest aside b
        → InOrder rules rest aside b
    in_order w (enough rest aside) = ends
    in_order w (apply r m t c) = put-before (in_order w c) r (w r m) t refl refl

    of-order : {rules : List Rule} {rest aside b : Label} → ((r : Rule) → r ∈ rules → r ∈ rs) → InOrder rules rest aside b
        → Communicates names rs rest aside b
    of-order w (ends {rest = rest} {aside}) = enough rest aside
    of-order w (takes {r = r} t o) = apply r (w r (inl refl)) t (of-order w o)
    of-order w (passes o) = of-order (λ r m. w r (inr m)) o

    -- what was set aside may be taken back: all that could be applied still can
    taken_back : {rest aside b : Label} (more left : Label) → aside ≡ plus more left → Communicates names rs rest aside b
        → Communicates names rs (plus rest more) left b
    taken_back more left e (enough rest aside) =
        subst (Communicates names rs (plus rest more) left) (plus_assoc rest more left ∙ ap (plus rest) (sym e)) (enough (plus rest more) left)
    taken_back more left e (apply r {rest = rest} {result = b} m t c) =
        apply r m (inside-plus r.left rest more t)
        (subst (λ (x : Label). Communicates names rs x (plus left (result r)) b) (sym (minus_plus rest more r.left t))
        (taken_back more (plus left (result r)) (ap (λ (x : Label). plus x (result r)) e ∙ plus_assoc more left (result r)) c))

    by_itself : {rest aside b : Label} → Communicates names rs rest aside b → Communicates names rs (plus rest aside) [] b
    by_itself {aside = aside} c = taken_back aside [] (sym (plus_none aside)) c

-- The walk on labels: `known` tells which are followed by themselves.
module _ (names : ℕ) (known : Label → Bool) where
  abbrev pub unless : (fits known : Bool) → List Label → List Label
  unless true true l = []
  unless true false l = l
  unless false known l = []

  abbrev pub leads : Rule → Label → Label → List Label → List Label
  leads r rest aside l = unless (inside r.left rest) (known (plus (taken r rest) (given names r aside))) l

  unfoldable pub each_of : (List Rule → Label → Label → List Label) → List Rule → Label → Label → List Label
  each_of more [] rest aside = []
  each_of more (r ∷ rs) rest aside = leads r rest aside (more (r ∷ rs) (taken r rest) (given names r aside)) ++ each_of more rs rest aside

  -- the label of a state and what comes of it by at most so many applications
  unfoldable pub whole : ℕ → List Rule → Label → Label → List Label
  whole zero rs rest aside = plus rest aside ∷ []
  whole (suc depth) rs rest aside = plus rest aside ∷ each_of (whole depth) rs rest aside

module _ (names : ℕ) (known : Label → Bool) (rs : List Rule) (legal : Each (LegalRule names) rs) where
  -- rules among those of the operator
  abbrev pub OfRules : List Rule → Type 0
  OfRules rules = (r : Rule) → r ∈ rules → r ∈ rs

  -- a state whose rest and label words pack
  pub record Packed (rest aside : Label) : Type 0 where
    pub left : Packs names rest
    pub label : Packs names (plus rest aside)

  module _ (r : Rule) (m : r ∈ rs) (rest aside : Label) (p : Packed rest aside) (t : T (inside r.left rest)) where
    abbrev sum : Label
    sum = plus rest aside

    abbrev next : Label
    next = plus (taken r rest) (given names r aside)

    within : T (inside r.left sum)
    within = inside-plus r.left rest aside t

    next-is : replaced names r sum ≡ next
    next-is = set-aside names r rest aside t

    next-less : size next < size sum
    next-less = subst (λ (x : Label). size x < size sum) next-is (fewer-left names r sum (rule-legal names rs legal r m).1 within)

    pub next-packed : Packed (taken r rest) (given names r aside)
    next-packed = record {
      left = record {
        wide = length-minus rest r.left ∙ p.left.wide;
        few = let s = size-minus rest r.left t in let k = p.left.few in omega arith;
      };
      label = record {
        wide = sym (ap length next-is) ∙ length-replaced names r sum p.label.wide;
        few = let s = next-less in let k = p.label.few in omega arith;
      };
    }

  -- What is listed comes of the label by rules, and words pack it.
  pub record Comes (rest aside b : Label) : Type 0 where
    pub by : Communicates names rs rest aside b
    pub packs : Packs names b

  in-unless : (t k : Bool) (l : List Label) (b : Label) → b ∈ unless names known t k l → (t ≡ true) × (b ∈ l)
  in-unless false k l b m = elim m [ ]
  in-unless true true l b m = elim m [ ]
  in-unless true false l b m = (refl, m)

  into-unless : (t k : Bool) (l : List Label) (b : Label) → T t → k ≡ false → b ∈ l → b ∈ unless names known t k l
  into-unless false k l b t e m = elim t [ ]
  into-unless true k l b t e m = rw e m

  abbrev Sound : (List Rule → Label → Label → List Label) → Type 0
  Sound f = (rules : List Rule) → OfRules rules → (rest aside : Label) → Packed rest aside → (b : Label) → b ∈ f rules rest aside → Comes rest aside b

  each-sound : (more : List Rule → Label → Label → List Label) → Sound more → Sound (each_of names known more)
  unfolding each_of
  each-sound more deep [] w rest aside p b m = elim m [ ]
  each-sound more deep (r ∷ later) w rest aside p b m =
      let found = more (r ∷ later) (taken r rest) (given names r aside) in
      elim ((in-append b (leads names known r rest aside found) (each_of names known more later rest aside)).0 m) [
        | inl k ↦
            let x = in-unless (inside r.left rest) (known (plus (taken r rest) (given names r aside))) found b k in
            let t : T (inside r.left rest) = rw x.0 tt in
            let y = deep (r ∷ later) w (taken r rest) (given names r aside) (next-packed r (w r (inl refl)) rest aside p t) b x.1 in
            record { by = apply r (w r (inl refl)) t y.by; packs = y.packs }
        | inr k ↦ each-sound more deep later (λ q l. w q (inr l)) rest aside p b k
      ]

  own-sound : (rest aside : Label) → Packed rest aside → (b : Label) → b ≡ plus rest aside → Comes rest aside b
  own-sound rest aside p b e =
      record { by = subst (Communicates names rs rest aside) (sym e) (enough rest aside); packs = subst (Packs names) (sym e) p.label }

  pub whole-sound : (depth : ℕ) → Sound (whole names known depth)
  unfolding whole
  whole-sound zero rules w rest aside p b m = elim m [ inl e ↦ own-sound rest aside p b e | inr k ↦ absurd k ]
  whole-sound (suc depth) rules w rest aside p b m =
      elim m [ inl e ↦ own-sound rest aside p b e | inr k ↦ each-sound (whole names known depth) (whole-sound depth) rules w rest aside p b k ]

  -- What comes of a label by rules is listed, or it comes of a smaller label that is followed by itself.
  pub record Elsewhere (most : ℕ) (b : Label) : Type 0 where
    pub label : Label
    pub itself : known label ≡ true
    pub packs : Packs names label
    pub less : size label < most
    pub by : Communicates names rs label [] b

  two-taken : (r : Rule) → r ∈ rs → (rest : Label) → T (inside r.left rest) → size (taken r rest) + 2 ≤ size rest
  two-taken r m rest t = omega (arith, size-minus rest r.left t, (rule-legal names rs legal r m).1)

  none-taken : {rules : List Rule} {rest aside b : Label} → InOrder names rules rest aside b → OfRules rules → size rest ≤ 0 → b ≡ plus rest aside
  none-taken ends w h = refl
  none-taken (takes {r = r} {rest = rest} t o) w h = absurd (omega (arith, two-taken r (w r (inl refl)) rest t))
  none-taken (passes o) w h = none-taken o (λ r m. w r (inr m)) h

  abbrev pub Found : ℕ → List Rule → Label → Label → Label → Type 0
  Found depth rules rest aside b = (b ∈ whole names known depth rules rest aside) ⊎ Elsewhere (size (plus rest aside)) b

  abbrev Complete : ℕ → Type 0
  Complete depth = (rules : List Rule) → OfRules rules → (rest aside : Label) → Packed rest aside → size rest ≤ depth
      → (b : Label) → InOrder names rules rest aside b → Found depth rules rest aside b

  module _ (depth : ℕ) (deep : Complete depth) (rest aside : Label) (p : Packed rest aside) (h : size rest ≤ suc depth) where
    abbrev Later : List Rule → Label → Type 0
    Later later b = (b ∈ each_of names known (whole names known depth) later rest aside) ⊎ Elsewhere (size (plus rest aside)) b

    -- What comes after one more application of the first rule: it is listed there, unless the label made is followed by itself.
    own : (r : Rule) (later : List Rule) → OfRules (r ∷ later) → T (inside r.left rest)
        → (b : Label) → InOrder names (r ∷ later) (taken r rest) (given names r aside) b → Later (r ∷ later) b
    unfolding each_of
    own r later v t b o = tested (known next') refl
      where
        listed-r : r ∈ rs
        listed-r = v r (inl refl)

        next' : Label
        next' = plus (taken r rest) (given names r aside)

        packed' : Packed (taken r rest) (given names r aside)
        packed' = next-packed r listed-r rest aside p t

        less' : size next' < size (plus rest aside)
        less' = next-less r listed-r rest aside p t

        tested : (k : Bool) → known next' ≡ k → Later (r ∷ later) b
        tested true e =
            inr (record { label = next'; itself = e; packs = packed'.label; less = less'; by = by_itself names rs (of-order names rs v o) })
        tested false e =
            let found = whole names known depth (r ∷ later) (taken r rest) (given names r aside) in
            elim (deep (r ∷ later) v (taken r rest) (given names r aside) packed' (omega (arith, two-taken r listed-r rest t)) b o) [
              | inl k ↦ inl ((in-append b (leads names known r rest aside found) (each_of names known (whole names known depth) later rest aside)).1
                  (inl (into-unless (inside r.left rest) (known next') found b t e k)))
              | inr x ↦ inr (record { label = x.label; itself = x.itself; packs = x.packs; less = omega (arith, x.less, less'); by = x.by })
            ]

    each-complete : {later : List Rule} {b : Label} → InOrder names later rest aside b → OfRules later → (b ≡ plus rest aside) ⊎ Later later b
    unfolding each_of
    each-complete ends v = inl refl
    each-complete {b = b} (takes {r = r} {rs = later} t o) v = inr (own r later v t b o)
    each-complete {b = b} (passes {r = r} {rs = later} o) v = elim (each-complete o (λ s l. v s (inr l))) [
      | inl e ↦ inl e
      | inr (inl k) ↦ inr (inl ((in-append b (leads names known r rest aside (whole names known depth (r ∷ later) (taken r rest) (given names r aside)))
          (each_of names known (whole names known depth) later rest aside)).1 (inr k)))
      | inr (inr y) ↦ inr (inr y)
    ]

  by-depth : (depth : ℕ) → Complete depth
  unfolding whole
  by-depth zero rules v rest aside p h b o = inl (inl (none-taken o v h))
  by-depth (suc depth) rules v rest aside p h b o = elim (each-complete depth (by-depth depth) rest aside p h o v) [
    | inl e ↦ inl (inl e)
    | inr (inl k) ↦ inl (inr k)
    | inr (inr y) ↦ inr y
  ]

  -- The rules may stand in any order: every application takes two actions or more, so there are no more of them than actions.
  pub complete : (depth : ℕ) (rules : List Rule) → OfRules rules → ((r : Rule) → r ∈ rs → r ∈ rules) → (rest aside : Label) → Packed rest aside
      → size rest ≤ depth → (b : Label) → Communicates names rs rest aside b → Found depth rules rest aside b
  complete depth rules v w rest aside p h b c = by-depth depth rules v rest aside p h b (in_order names rs w c)
