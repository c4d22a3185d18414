-- Numbers, words and names: each is read back from its writing, and from nothing else.
-- Assumes nothing.
use mathlib.Core.Path.{◌≡◌, refl, sym, ap, ap₂, subst, ◌∙◌}
use mathlib.Core.Logic.{◌⊎◌, inl, inr, ◌↔◌}
use mathlib.Core.Bool.{not}
use mathlib.Core.List.{List, [], ◌∷◌, ◌++◌}
use Prim.Native.Nat.{ℕ, zero, suc, ◌+◌, ◌*◌, ◌-◌, ◌/◌, ◌%◌, ◌≤◌, ◌<◌, zero-le, suc-le-suc}
use native.Mathlib.Omega.{arith}
use lib.Dec.{T, leb, ltb, eqb, eqb→eq, eqb_refl, leb→le, le→leb, ltb→lt, lit<, nltb→le, not_T, T_not}
use lib.ListN.{length, get_or}
use Rattle.meaning.specs.Bytes.{Text}
use Rattle.meaning.specs.Sets.{◌∈◌}
use Rattle.meaning.specs.Legal.{Each}
use Rattle.meaning.specs.Answers.{name}
use Rattle.meaning.proofs.Tests.{and_left, and_right, and_both, decided-by}
use Rattle.grammar.specs.Text.{past, Placed, placed, same_text, is_digit, is_lower, second_digit, number, word_on, word}
use Rattle.grammar.specs.Faults.{Found, fine, name_number, name_fault}
use Rattle.grammar.specs.Marks.{digits, decimal}
use Rattle.grammar.specs.Writing.{name_text, in_name, NameForm, Distinct, LegalWords}
use Rattle.grammar.proofs.Decimal.{decimal_digit, decimal-two}
use Rattle.grammar.proofs.Findings.{IsFine, fine-below}
use Rattle.grammar.proofs.Onwards.{T→true, T-not→false, same→, same_refl, When, when-past, when-stuck, when-branch, onward→, onward←}
use Rattle.grammar.proofs.Writes.{not-or→, Stops, Writes, writes-placed, writes_as}

abbrev pub faultless : {A : Type 0} → A → Found
faultless a = fine

abbrev pub AsIs : {A : Type 0} → A → Type 0
AsIs a = Unit {0}

abbrev pub itself : {A : Type 0} → A → A
itself a = a

-- What the tests of a byte say.
digit→ : (b : ℕ) → T (is_digit b) → (48 ≤ b) × (b ≤ 57)
unfolding is_digit
digit→ b h = (leb→le 48 b (and_left (leb 48 b) (leb b 57) h), leb→le b 57 (and_right (leb 48 b) (leb b 57) h))

digit← : (b : ℕ) → 48 ≤ b → b ≤ 57 → T (is_digit b)
unfolding is_digit
digit← b h k = and_both (leb 48 b) (leb b 57) (le→leb 48 b h) (le→leb b 57 k)

not_eqb : (m n : ℕ) → (m ≡ n → ⊥) → T (not (eqb m n))
not_eqb m n h = not_T (eqb m n) (λ t. h (eqb→eq m n t))

eqb-not : (m n : ℕ) → T (not (eqb m n)) → m ≡ n → ⊥
eqb-not m n h e = T_not (eqb m n) h (subst (λ k. T (eqb m k)) e (eqb_refl m))

-- A number's digits.
abbrev digit_of : ℕ → ℕ
digit_of n = 48 + n

abbrev pub Small : ℕ → Type 0
Small n = n < 100

-- the number of one digit
digit-sound : (b : ℕ) (r : Text) → 48 ≤ b → b ≤ 57 → (◌≡◌ {A = Text} (b ∷ r) (decimal (b - 48) ++ r)) × Small (b - 48)
digit-sound b r h k = let e : b ≡ digit_of (b - 48) = omega arith in (rw (decimal_digit (b - 48) (omega arith)) (ap {B = Text} (λ c. c ∷ r) e), omega arith)

second-sound : (b : ℕ) (s : Text) → 48 ≤ b → b ≤ 57 → (b ≡ 48 → ⊥)
    → When (second_digit (b - 48) s) (λ n r. Unit {0} → (◌≡◌ {A = Text} (b ∷ s) (decimal n ++ r)) × Small n)
unfolding second_digit
second-sound b [] h k e = when-past (λ _. digit-sound b [] h k)
second-sound b (c ∷ s) h k e =
    when-branch (is_digit c)
    (λ d. let i = digit→ c d in
    let p : b ≡ digit_of (b - 48) = omega arith in
    let q : c ≡ digit_of (c - 48) = omega arith in
    when-past (λ _. (rw (decimal-two (b - 48) (c - 48) (omega arith) (omega arith) (omega arith)) (ap₂ {C = Text} (λ x y. x ∷ y ∷ s) p q), omega arith)))
    (λ _. when-past (λ _. digit-sound b (c ∷ s) h k))

number-sound : (s : Text) → When (number s) (λ n r. Unit {0} → (s ≡ decimal n ++ r) × Small n)
unfolding number
number-sound [] = when-stuck
number-sound (b ∷ s) =
    when-branch (is_digit b)
    (λ d. when-branch (eqb b 48)
    (λ e. when-past (λ _. (rw (decimal_digit 0 (lit< tt)) (ap {B = Text} (λ c. c ∷ s) (eqb→eq b 48 e)), lit< tt)))
    (λ e. second-sound b s (digit→ b d).0 (digit→ b d).1 (eqb-not b 48 e)))
    (λ _. when-stuck)

first-digit : (n : ℕ) (s : Text) → 1 ≤ n → n < 10 → number (digit_of n ∷ s) ≡ second_digit n s
unfolding number
first-digit n s h k =
    let e : digit_of n - 48 ≡ n = omega arith in
    rw (T→true (is_digit (digit_of n)) (digit← (digit_of n) (omega arith) (omega arith)), number)
    (rw (T-not→false (eqb (digit_of n) 48) (not_eqb (digit_of n) 48 (λ e. absurd (omega arith)))) (ap (λ m. second_digit m s) e))

no_second : (n : ℕ) (r : Text) → Stops in_name r → second_digit n r ≡ past n r
unfolding second_digit
no_second n [] h = absurd h
no_second n (b ∷ r) h = rw (T-not→false (is_digit b) (not-or→ (is_lower b) (is_digit b) h).1, second_digit)

number-reads : (n : ℕ) → Small n → (r : Text) → Stops in_name r → number (decimal n ++ r) ≡ past n r
unfolding number digits is_digit second_digit
number-reads zero h r k = refl
number-reads (suc m) h r k =
    let n = suc m in
    elim (decided-by (ltb n 10)) [
      | inl t ↦ rw (decimal_digit n (ltb→lt n 10 t)) (first-digit n r (omega arith) (ltb→lt n 10 t) ∙ no_second n r k)
      | inr f ↦ let big : 10 ≤ n = nltb→le n 10 (not_T (ltb n 10) f) in
          let e : n ≡ 10 * (n / 10) + n % 10 = omega arith in
          let last : digit_of (n % 10) - 48 ≡ n % 10 = omega arith in
          let digit = digit← (digit_of (n % 10)) (omega arith) (omega arith) in
          let second : second_digit (n / 10) (digit_of (n % 10) ∷ r) ≡ past (10 * (n / 10) + n % 10) r =
          rw (T→true (is_digit (digit_of (n % 10))) digit, second_digit) (ap (λ l. past (10 * (n / 10) + l) r) last) in
          let first = first-digit (n / 10) (digit_of (n % 10) ∷ r) (omega arith) (omega arith) in
          subst (λ x. number (decimal x ++ r) ≡ past x r) (sym e)
          (rw (decimal-two (n / 10) (n % 10) (omega arith) (omega arith) (omega arith)) (first ∙ second))
    ]

pub writes-number : Writes number itself AsIs decimal Small in_name
writes-number = record {
  sound = number-sound;
  complete = λ n h r k. record { value = n; faultless = tt; said = refl; reads = number-reads n h r k };
}

-- Words.
abbrev InName : Text → Type 0
InName w = Each (λ c. T (in_name c)) w

word_on-sound : (more : ℕ) (s : Text) → When (word_on more s) (λ w r. (s ≡ w ++ r) × (length w ≤ more) × InName w)
unfolding word_on
word_on-sound zero s = when-past (refl, zero-le, tt)
word_on-sound (suc more) [] = when-past (refl, zero-le, tt)
word_on-sound (suc more) (b ∷ s) =
    when-branch (in_name b)
    (λ t. onward→ (word_on-sound more s) (λ w r h. when-past (ap {B = Text} (λ u. b ∷ u) h.0, suc-le-suc h.1, (t, h.2))))
    (λ _. when-past (refl, zero-le, tt))

word_sound : (s : Text) → When (word s) (λ w r. Unit {0} → (s ≡ w ++ r) × NameForm w)
unfolding word
word_sound [] = when-stuck
word_sound (b ∷ s) =
    when-branch (is_lower b)
    (λ t. onward→ (word_on-sound 7 s) (λ w r h. when-past (λ _. (ap {B = Text} (λ u. b ∷ u) h.0, (t, h.1, h.2)))))
    (λ _. when-stuck)

word_on-reads : (more : ℕ) (w : Text) → length w ≤ more → InName w → (r : Text) → Stops in_name r → word_on more (w ++ r) ≡ past w r
unfolding word_on
word_on-reads zero [] n h r k = refl
word_on-reads zero (c ∷ w) n h r k = absurd (omega arith)
word_on-reads (suc more) [] n h [] k = absurd k
word_on-reads (suc more) [] n h (b ∷ r) k = rw (T-not→false (in_name b) k, word_on)
word_on-reads (suc more) (c ∷ w) n h r k =
    rw (T→true (in_name c) h.0, word_on) (onward← (λ u q. past (c ∷ u) q) (word_on-reads more w (omega arith) h.1 r k))

word-reads : (w : Text) → NameForm w → (r : Text) → Stops in_name r → word (w ++ r) ≡ past w r
unfolding word
word-reads [] h r k = absurd h
word-reads (b ∷ w) h r k = rw (T→true (is_lower b) h.0, word) (onward← (λ u q. past (b ∷ u) q) (word_on-reads 7 w h.1 h.2 r k))

pub writes-word : Writes word itself AsIs itself NameForm in_name
writes-word = record {
  sound = word_sound;
  complete = λ w h r k. record { value = w; faultless = tt; said = refl; reads = word-reads w h r k };
}

-- Names, by their numbers.
pub each_at : {A : Type 0} (P : A → Type 0) (xs : List A) (d : A) (n : ℕ) → n < length xs → Each P xs → P (get_or xs n d)
each_at P [] d n h k = absurd (omega arith)
each_at P (x ∷ xs) d zero h k = k.0
each_at P (x ∷ xs) d (suc n) h k = each_at P xs d n (omega arith) k.1

name_in : (words : List Text) (n : ℕ) → n < length words → name_text words n ∈ words
name_in [] n h = absurd (omega arith)
name_in (v ∷ words) zero h = inl refl
name_in (v ∷ words) (suc n) h = inr (name_in words n (omega arith))

-- a word is the first or is looked for among the others
number-first : (v : Text) (words : List Text) (w : Text) → v ≡ w → name_number (v ∷ words) w ≡ 0
unfolding name_number
number-first v words w e = rw (T→true (same_text v w) (subst (λ u. T (same_text v u)) e (same_refl v)), name_number)

number-later : (v : Text) (words : List Text) (w : Text) → (v ≡ w → ⊥) → name_number (v ∷ words) w ≡ suc (name_number words w)
unfolding name_number
number-later v words w f = rw (T-not→false (same_text v w) (not_T (same_text v w) (λ t. f (same→ v w t))), name_number)

same_or_not : (v w : Text) → (v ≡ w) ⊎ (v ≡ w → ⊥)
same_or_not v w = elim (decided-by (same_text v w)) [ inl t ↦ inl (same→ v w t) | inr f ↦ inr (λ e. f (subst (λ u. T (same_text v u)) e (same_refl v))) ]

-- the name of a known word's number is that word, and the number of a name's word is that name
named : (words : List Text) (w : Text) → name_number words w < length words → name_text words (name_number words w) ≡ w
named [] w h = absurd (omega arith)
named (v ∷ words) w h =
    elim (same_or_not v w) [
      | inl e ↦ rw (number-first v words w e) e
      | inr f ↦ let later = number-later v words w f in rw later (named words w (omega arith))
    ]

numbered : (words : List Text) → Distinct words → (n : ℕ) → n < length words → name_number words (name_text words n) ≡ n
numbered [] d n h = absurd (omega arith)
numbered (v ∷ words) d zero h = number-first v words v refl
numbered (v ∷ words) d (suc n) h =
    let apart : v ≡ name_text words n → ⊥ = λ e. d.0 (subst (λ u. u ∈ words) (sym e) (name_in words n (omega arith))) in
    number-later v words (name_text words n) apart ∙ ap suc (numbered words d.1 n (omega arith))

pub known→in : (words : List Text) (w : Text) → name_number words w < length words → w ∈ words
known→in words w h = subst (λ u. u ∈ words) (named words w h) (name_in words (name_number words w) h)

pub in→known : (words : List Text) (w : Text) → w ∈ words → name_number words w < length words
in→known [] w x' = elim x' [ ]
in→known (v ∷ words) w (inl e) = let first = number-first v words w (sym e) in omega arith
in→known (v ∷ words) w (inr m) =
    elim (same_or_not v w) [
      | inl e ↦ let first = number-first v words w e in omega arith
      | inr f ↦ let later = number-later v words w f in let h = in→known words w m in omega arith
    ]

pub known-says : (words : List Text) (w : Placed Text) → IsFine (name_fault words w) ↔ (name_number words w.it < length words)
unfolding name_fault
known-says words w = fine-below (name_number words w.it) (length words) name w.from

pub writes-name : (words : List Text) → LegalWords words
    → Writes (placed word) (λ w. name_number words w.it) (λ w. IsFine (name_fault words w)) (name_text words) (λ n. n < length words) in_name
writes-name words legal =
    writes_as (writes-placed (λ _. writes-word))
    (λ w f. let h = (known-says words w).0 f in (tt, λ _. (sym (named words w.it h), h)))
    (λ n h. (
      name_text words n,
      each_at NameForm words [] n h legal.0,
      refl,
      λ w _ e.
          let k : name_number words w.it ≡ n = ap (name_number words) e ∙ numbered words legal.2 n h in
          ((known-says words w).1 (omega arith), k),
    ))
