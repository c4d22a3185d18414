-- Forms and their writings. A form is read, what was read is free of faults or not and says something, and what it says has a writing:
-- `Writes` holds the two together, and is proved once for each way in which forms are put together.
-- Assumes nothing.
use mathlib.Core.Path.{◌≡◌, refl, sym, ap, ap₂, subst, ◌∙◌}
use mathlib.Core.Logic.{◌↔◌}
use mathlib.Core.Bool.{Bool, true, false, ◌||◌, not}
use mathlib.Core.List.{List, [], ◌∷◌, ◌++◌, map, append_assoc, append-nil}
use Prim.Native.Nat.{ℕ, zero, suc, ◌≤◌, ◌<◌, zero-le, suc-le-suc}
use native.Mathlib.Omega.{arith}
use lib.Dec.{T, eqb, eqb_refl}
use lib.ListN.{length, length-append, length-map}
use Rattle.meaning.specs.Bytes.{Text}
use Rattle.meaning.specs.Sets.{Rising}
use Rattle.meaning.specs.Legal.{Each}
use Rattle.grammar.specs.Text.{Past, past, onward, placed, literal, byte, starts, separated_on, separated}
use Rattle.grammar.specs.Faults.{Found, items_fault}
use Rattle.grammar.specs.Marks.{followed, joined_by}
use Rattle.grammar.proofs.Findings.{IsFine}
use Rattle.grammar.proofs.Items.{weigh, item, items-say}
use Rattle.grammar.proofs.Onwards.{T→true, T-not→false, When, when-past, when-stuck, when-weaken, when-branch, onward→, onward←, literal→, literal←}

-- A text that goes on, and not with such a byte: behind a form there is another, or the LF of the line.
abbrev pub Stops : (ℕ → Bool) → Text → Type 0
Stops goes [] = ⊥
Stops goes (b ∷ s) = T (not (goes b))

pub each_weaken : {A : Type 0} (P Q : A → Type 0) (xs : List A) → ((x : A) → P x → Q x) → Each P xs → Each Q xs
each_weaken P Q [] f h = tt
each_weaken P Q (x ∷ xs) f h = (f x h.0, each_weaken P Q xs f h.1)

pub not-or→ : (b c : Bool) → T (not (b || c)) → T (not b) × T (not c)
not-or→ true c h = absurd h
not-or→ false c h = (tt, h)

-- What is read of the text s, up to the text r behind it, has no fault and says z.
pub record Reads {X Z : Type 0} (form : Text → Past X) (says : X → Z) (Fine : X → Type 0) (z : Z) (s r : Text) : Type 0 where
  pub value : X
  pub faultless : Fine value
  pub said : says value ≡ z
  pub reads : form s ≡ past value r

pub reads-by : {X Z : Type 0} {form form' : Text → Past X} {says : X → Z} {Fine : X → Type 0} {z : Z} {s s' r : Text}
    (c : Reads form says Fine z s r) → form' s' ≡ past c.value r → Reads form' says Fine z s' r
reads-by c e = record { value = c.value; faultless = c.faultless; said = c.said; reads = e }

pub reads_then : {A B X Z : Type 0} {one : Text → Past A} {says₁ : A → B} {Fine₁ : A → Type 0} {b : B} {s t r : Text}
    {rest : A → Text → Past X} {says : X → Z} {Fine : X → Type 0} {z : Z}
    → Reads one says₁ Fine₁ b s t → ((a : A) → Fine₁ a → says₁ a ≡ b → Reads (rest a) says Fine z t r) → Reads (λ s. onward (one s) rest) says Fine z s r
reads_then c k = let d = k c.value c.faultless c.said in reads-by d (onward← _ c.reads ∙ d.reads)

pub reads-after : {X Z : Type 0} {form : Text → Past X} {says : X → Z} {Fine : X → Type 0} {z : Z} {s r : Text} (key : Text)
    → Reads form says Fine z s r → Reads (λ s. onward (literal key s) (λ _. form)) says Fine z (key ++ s) r
reads-after {s} key c = reads-by c (onward← _ (literal← key s) ∙ c.reads)

pub record Writes {X Y : Type 0} (form : Text → Past X) (says : X → Y) (Fine : X → Type 0)
    (text : Y → Text) (Legal : Y → Type 0) (goes : ℕ → Bool) : Type 0 where
  pub sound : (s : Text) → When (form s) (λ x r. Fine x → (s ≡ text (says x) ++ r) × Legal (says x))
  pub complete : (y : Y) → Legal y → (r : Text) → Stops goes r → Reads form says Fine y (text y ++ r) r

-- The same with the place where it begins, on which its faults' places may depend.
pub writes-placed : {X Y : Type 0} {form : Text → Past X} {says : X → Y} {Fine : ℕ → X → Type 0} {text : Y → Text} {Legal : Y → Type 0} {goes : ℕ → Bool}
    → ((from : ℕ) → Writes form says (Fine from) text Legal goes)
    → Writes (placed form) (λ p. says p.it) (λ p. Fine p.from p.it) text Legal goes
writes-placed {text} w = record {
  sound = λ s. onward→ ((w (length s)).sound s) (λ x r h. when-past h);
  complete = λ y l r h.
      let from = length (text y ++ r) in
      let c = (w from).complete y l r h in
      record { value = record { it = c.value; from = from }; faultless = c.faultless; said = c.said; reads = onward← _ c.reads };
}

module _ {X Y : Type 0} {form : Text → Past X} {says : X → Y} {Fine : X → Type 0} {text : Y → Text} {Legal : Y → Type 0} {goes : ℕ → Bool}
    (w : Writes form says Fine text Legal goes) where
  -- The same behind a word that must stand there.
  pub writes-after : (key : Text) → Writes (λ s. onward (literal key s) (λ _. form)) says Fine (λ y. key ++ text y) Legal goes
  writes-after key = record {
    sound = λ s. onward→ (literal→ key s) (λ _ q e. when-weaken (w.sound q) (λ x r h f.
        let k = h f in
        (rw append_assoc (e ∙ ap (λ t. key ++ t) k.0), k.1)));
    complete = λ y l r h. rw append_assoc (reads-after key (w.complete y l r h));
  }

  -- The same form with other faults, and with what it says said otherwise.
  pub writes_as : {Z : Type 0} {says' : X → Z} {Fine' : X → Type 0} {text' : Z → Text} {Legal' : Z → Type 0}
      → ((x : X) → Fine' x → Fine x × (Legal (says x) → (text (says x) ≡ text' (says' x)) × Legal' (says' x)))
      → ((z : Z) → Legal' z → (y : Y) × Legal y × (text y ≡ text' z) × ((x : X) → Fine x → says x ≡ y → Fine' x × (says' x ≡ z)))
      → Writes form says' Fine' text' Legal' goes
  writes_as to back = record {
    sound = λ s. when-weaken (w.sound s) (λ x r h f.
        let t = to x f in
        let i = h t.0 in
        let k = t.1 i.1 in
        (i.0 ∙ ap (λ q. q ++ r) k.0, k.1));
    complete = λ z l r h.
        let b = back z l in
        let c = w.complete b.0 b.1 r h in
        let k = b.3 c.value c.faultless c.said in
        record { value = c.value; faultless = k.0; said = k.1; reads = rw b.2 at c.reads };
  }

  -- More to be free of.
  pub writes-narrow : {Fine' : X → Type 0} {Legal' : Y → Type 0} (And : Y → Type 0)
      → ((x : X) → Fine' x ↔ (Fine x × And (says x))) → ((y : Y) → Legal' y ↔ (Legal y × And y)) → Writes form says Fine' text Legal' goes
  writes-narrow And free legal =
      writes_as
      (λ x f. let k = (free x).0 f in (k.0, λ l. (refl, (legal (says x)).1 (l, k.1))))
      (λ y l. let k = (legal y).0 l in (y, k.0, refl, λ x f e. ((free x).1 (f, subst And (sym e) k.1), e)))

-- Two forms with a sign between them.
pub writes-pair : {A B C D X Y : Type 0}
    {one : Text → Past A} {says₁ : A → B} {Fine₁ : A → Type 0} {text₁ : B → Text} {Legal₁ : B → Type 0} {goes₁ : ℕ → Bool}
    {other : Text → Past C} {says₂ : C → D} {Fine₂ : C → Type 0} {text₂ : D → Text} {Legal₂ : D → Type 0} {goes₂ : ℕ → Bool}
    → Writes one says₁ Fine₁ text₁ Legal₁ goes₁ → Writes other says₂ Fine₂ text₂ Legal₂ goes₂ → (sign : ℕ) → T (not (goes₁ sign))
    → (make : A → C → X) (left : Y → B) (right : Y → D) {says : X → Y} {Fine : X → Type 0}
    → ((a : A) (c : C) → left (says (make a c)) ≡ says₁ a) → ((a : A) (c : C) → right (says (make a c)) ≡ says₂ c)
    → ((y z : Y) → left y ≡ left z → right y ≡ right z → y ≡ z) → ((a : A) (c : C) → Fine (make a c) ↔ (Fine₁ a × Fine₂ c))
    → Writes (λ s. onward (one s) (λ a r. onward (byte sign r) (λ _ q. onward (other q) (λ c p. past (make a c) p)))) says Fine
    (λ y. text₁ (left y) ++ (sign ∷ text₂ (right y))) (λ y. Legal₁ (left y) × Legal₂ (right y)) goes₂
writes-pair {says₁} {text₁} {says₂} {text₂} w v sign apart make left right {says} says-left says-right only faults = record {
  sound = λ s. onward→ (w.sound s) (λ a t h. onward→ (literal→ (sign ∷ []) t) (λ _ q e. onward→ (v.sound q) (λ c r i. when-past (λ f.
      let k = (faults a c).0 f in
      let m : s ≡ text₁ (says₁ a) ++ (sign ∷ (text₂ (says₂ c) ++ r)) =
      (h k.0).0 ∙ ap (λ u. text₁ (says₁ a) ++ u) (e ∙ ap {B = Text} (λ u. sign ∷ u) (i k.1).0) in
      (rw (says-left a c, says-right a c, append_assoc) m, (rw (says-left a c) (h k.0).1, rw (says-right a c) (i k.1).1))))));
  complete = λ y l r h.
      rw append_assoc (reads_then (w.complete (left y) l.0 (sign ∷ (text₂ (right y) ++ r)) apart) (λ a f e.
      reads-after (sign ∷ []) (reads_then (v.complete (right y) l.1 r h) (λ c g d. record {
        value = make a c;
        faultless = (faults a c).1 (f, g);
        said = only (says (make a c)) y (says-left a c ∙ e) (says-right a c ∙ d);
        reads = refl;
      }))));
}

-- One or more of a form with a sign between them.
signs : (sign : ℕ) (ts : List Text) → length ts ≤ length (followed sign ts)
unfolding followed
signs sign [] = zero-le
signs sign (t ∷ ts) = let n = signs sign ts in simp length-append (omega arith)

module _ {X Y : Type 0} {form : Text → Past X} {says : X → Y} {Fine : X → Type 0} {text : Y → Text} {Legal : Y → Type 0} {goes : ℕ → Bool}
    (w : Writes form says Fine text Legal goes) (sign : ℕ) (apart : T (not (goes sign))) where
  abbrev several-text : List Y → Text
  several-text ys = joined_by sign (map text ys)

  abbrev Several : List Y → Type 0
  Several ys = (1 ≤ length ys) × Each Legal ys

  abbrev or-sign : ℕ → Bool
  or-sign b = goes b || eqb sign b

  -- what is joined behind a first one
  behind : (ys : List Y) → 1 ≤ length ys → followed sign (map text ys) ≡ sign ∷ several-text ys
  unfolding followed joined_by
  behind [] h = absurd (omega arith)
  behind (y ∷ ys) h = refl

  several-sound : (more : ℕ) (s : Text) → When (separated_on sign form more s)
      (λ xs r. Each Fine xs → (s ≡ several-text (map says xs) ++ r) × Several (map says xs))
  unfolding separated_on joined_by followed
  several-sound zero s = when-stuck
  several-sound (suc more) s =
      onward→ (w.sound s) (λ a t h. when-branch (starts sign t)
      (λ _. onward→ (literal→ (sign ∷ []) t) (λ _ q e. onward→ (several-sound more q) (λ xs r i. when-past (λ f.
      let j = i f.1 in
      let m : s ≡ text (says a) ++ (sign ∷ (several-text (map says xs) ++ r)) =
      (h f.0).0 ∙ ap (λ u. text (says a) ++ u) (e ∙ ap {B = Text} (λ u. sign ∷ u) j.0) in
      (rw (append_assoc, behind (map says xs) j.1.0) m, (omega arith, ((h f.0).1, j.1.1)))))))
      (λ _. when-past (λ f. let k = h f.0 in (rw append-nil k.0, (omega arith, (k.1, tt))))))

  stops-both : (r : Text) → Stops or-sign r → Stops goes r × (starts sign r ≡ false)
  stops-both [] h = absurd h
  stops-both (b ∷ s) h = let k = not-or→ (goes b) (eqb sign b) h in (k.0, T-not→false (eqb sign b) k.1)

  several-reads : (more : ℕ) (y : Y) (ys : List Y) → Each Legal (y ∷ ys) → (r : Text) → Stops or-sign r → length ys < more
      → Reads (separated_on sign form more) (map says) (Each Fine) (y ∷ ys) (several-text (y ∷ ys) ++ r) r
  unfolding separated_on joined_by followed
  several-reads zero y ys l r h n = absurd (omega arith)
  several-reads (suc more) y [] l r h n =
      let k = stops-both r h in
      rw append-nil (reads_then (w.complete y l.0 r k.0) (λ a f e.
      record { value = a ∷ []; faultless = (f, tt); said = ap (λ z. z ∷ []) e; reads = rw k.1 }))
  several-reads (suc more) y (z ∷ ys) l r h n =
      let rest = several-text (z ∷ ys) ++ r in
      let i = several-reads more z ys l.1 r h (omega arith) in
      rw append_assoc (reads_then (w.complete y l.0 (sign ∷ rest) apart) (λ a f e. record {
        value = a ∷ i.value;
        faultless = (f, i.faultless);
        said = ap₂ {C = List Y} ◌∷◌ e i.said;
        reads = rw (T→true (eqb sign sign) (eqb_refl sign)) (onward← _ (literal← (sign ∷ []) rest) ∙ onward← _ i.reads);
      }))

  -- there are not more entries than bytes
  enough : (y : Y) (ys : List Y) (r : Text) → length ys ≤ length (several-text (y ∷ ys) ++ r)
  unfolding joined_by
  enough y ys r = let n = signs sign (map text ys) in simp length-append (omega (arith, length-map ys text))

  several-complete : (ys : List Y) → Several ys → (r : Text) → Stops or-sign r
      → Reads (separated sign form) (map says) (Each Fine) ys (several-text ys ++ r) r
  several-complete [] l r h = absurd (omega arith)
  several-complete (y ∷ ys) l r h =
      let c = several-reads (suc (length (several-text (y ∷ ys) ++ r))) y ys l.1 r h (suc-le-suc (enough y ys r)) in
      reads-by c c.reads

  writes-several : Writes (separated sign form) (map says) (Each Fine) several-text Several or-sign
  writes-several = record { sound = λ s. several-sound (suc (length s)) s; complete = several-complete }

-- The lists: ascending by a key, and of no more than the limit.
pub writes_items : {X Y : Type 0} {form : Text → Past X} {says : X → Y} {text : Y → Text} {Legal : Y → Type 0} {goes : ℕ → Bool}
    (own : X → Found) → Writes form says (λ x. IsFine (own x)) text Legal goes → (sign : ℕ) → T (not (goes sign))
    → (from : X → ℕ) (key weight : Y → ℕ) (limit : ℕ) {Legal' : List Y → Type 0}
    → ((ys : List Y) → Legal' ys ↔ (((1 ≤ length ys) × Each Legal ys) × (Rising (map key ys) × (weigh weight ys ≤ limit))))
    → Writes (separated sign form) (map says) (λ xs. IsFine (items_fault limit (map (item says own from key weight limit) xs)))
    (λ ys. joined_by sign (map text ys)) Legal' (λ b. goes b || eqb sign b)
writes_items {says} own w sign apart from key weight limit legal =
    writes-narrow (writes-several w sign apart) (λ ys. Rising (map key ys) × (weigh weight ys ≤ limit))
    (λ xs. let i = items-say says own from key weight limit xs in
    (λ f. let k = i.0 f in (k.0, (k.1, k.2)), λ h. i.1 (h.0, h.1.0, h.1.1))) legal
