-- The text from a place on, byte by byte, against the forms at the bottom of a line.
-- Assumes nothing.
use mathlib.Core.Path.{◌≡◌, refl, sym, ◌∙◌}
use mathlib.Core.Bool.{Bool, true, false, ◌&&◌, false≢true}
use mathlib.Core.List.{[], ◌∷◌}
use Prim.Native.Nat.{ℕ, ◌+◌, ◌*◌, ◌-◌, ◌≤◌, ◌<◌}
use native.Mathlib.Numerals.{add-one}
use lib.Dec.{T, leb, ltb, eqb, leb→le}
use lib.ListN.{length, get_or, drop, drop_of_length-le}
use lib.Seq.{drop-cons}
use native.Mathlib.Omega.{arith}
use borrow.Author.Tests.{eq-eqb, ne_eqb, ltb-true, ltb-false}
use Rattle.meaning.specs.Bytes.{Text}
use Rattle.meaning.proofs.Tests.{and_left, and_right}
use Rattle.grammar.specs.Text.{past, stuck, starts, literal, is_digit, second_digit, number}
use Rattle.std.specs.Prelude.{Some, None, Ok, Err}
use Rattle.std.proofs.lemmas.Option.{none-some, same_Some}
use Rattle.words.specs.Steps.{digit_of, Reading, Steps}

-- the first byte from a place on, and the rest
pub rest-cons : (s : Text) (n : ℕ) → n < length s → drop n s ≡ get_or s n 0 ∷ drop (n + 1) s
rest-cons s n h = rw add-one (drop-cons s n 0 h)

-- A sign that stands there lies in the line.
pub sign-within : (sign : ℕ) (line : Text) (next : ℕ) → starts sign (drop next line) ≡ true → next < length line
sign-within sign line next e = cases (ltb next (length line)) refl
  where
    cases : (t : Bool) → ltb next (length line) ≡ t → next < length line
    cases true h = ltb-true next (length line) h
    cases false h = absurd (false≢true (rw (drop_of_length-le line (ltb-false next (length line) h)) at e))

-- A word that must stand there as it is, byte by byte.
pub literal-other : (c : ℕ) (w s : Text) → starts c s ≡ false → stuck s ≡ literal (c ∷ w) s
unfolding literal
literal-other c w [] e = refl
literal-other c w (b ∷ s) e = rw (e, literal)

pub literal-more : (c : ℕ) (w line : Text) (next : ℕ) → starts c (drop next line) ≡ true → literal w (drop (next + 1) line) ≡ literal (c ∷ w) (drop next line)
unfolding literal
literal-more c w line next e =
    let r = rest-cons line next (sign-within c line next e) in
    let k : eqb c (get_or line next 0) ≡ true = rw r at e in
    rw (r, k, literal)

-- A word of which some bytes stood there, and what is left of it.
pub record Spelling (whole left line : Text) (next : ℕ) : Type 0 where
  pub says : literal left (drop next line) ≡ literal whole line
  pub within : next ≤ length line

abbrev pub Spelled : Text → Text → Reading (Unit {0}) → Type 0
Spelled whole line r = Steps (λ u. u) line r (literal whole line)

module _ {whole left line : Text} {next : ℕ} (s : Spelling whole left line next) where
  module _ {c : ℕ} {rest : Text} (e : left ≡ c ∷ rest) where
    pub spelled-other : starts c (drop next line) ≡ false → Spelled whole line (Err (record { after = next }))
    spelled-other f = record { stands = record { says = literal-other c rest (drop next line) f ∙ (rw e at s.says); within = s.within } }

    pub spelled-more : starts c (drop next line) ≡ true → Spelling whole rest line (next + 1)
    spelled-more f =
        let w = sign-within c line next f in
        record { says = literal-more c rest line next f ∙ (rw e at s.says); within = omega arith }

  pub spelled-all : {end : ℕ} → left ≡ [] → end ≡ next → Spelled whole line (Ok (record { value = tt; bytes = end }))
  unfolding literal
  spelled-all e h = rw h (record { stands = record { says = rw e at s.says; within = s.within } })

-- A number, digit by digit.
digit-most : (b : ℕ) → is_digit b ≡ true → (48 ≤ b) × (b ≤ 57)
unfolding is_digit
digit-most b e =
    let t : T (leb 48 b && leb b 57) = rw e tt in
    (leb→le 48 b (and_left (leb 48 b) (leb b 57) t), leb→le b 57 (and_right (leb 48 b) (leb b 57) t))

module _ (line : Text) (at : ℕ) where
  pub digit-none : length line ≤ at → None ≡ digit_of (drop at line)
  digit-none h = rw (drop_of_length-le line h)

  pub digit-other : at < length line → is_digit (get_or line at 0) ≡ false → None ≡ digit_of (drop at line)
  digit-other h e = rw (rest-cons line at h, e)

  pub digit-here : at < length line → is_digit (get_or line at 0) ≡ true → Some (get_or line at 0 - 48) ≡ digit_of (drop at line)
  digit-here h e = rw (rest-cons line at h, e)

pub number-stuck : (s : Text) → digit_of s ≡ None → stuck s ≡ number s
unfolding number
number-stuck [] h = refl
number-stuck (b ∷ s) h = cases (is_digit b) refl
  where
    cases : (t : Bool) → is_digit b ≡ t → stuck (b ∷ s) ≡ number (b ∷ s)
    cases true e = absurd (none-some (b - 48) (sym (rw e at h)))
    cases false e = rw (e, number)

pub second_none : (n : ℕ) (s : Text) → digit_of s ≡ None → past n s ≡ second_digit n s
unfolding second_digit
second_none n [] h = refl
second_none n (b ∷ s) h = cases (is_digit b) refl
  where
    cases : (t : Bool) → is_digit b ≡ t → past n (b ∷ s) ≡ second_digit n (b ∷ s)
    cases true e = absurd (none-some (b - 48) (sym (rw e at h)))
    cases false e = rw (e, second_digit)

digit-some : (b : ℕ) (s : Text) {d : ℕ} → digit_of (b ∷ s) ≡ Some d → (is_digit b ≡ true) × (d ≡ b - 48)
digit-some b s {d} h = cases (is_digit b) refl
  where
    cases : (t : Bool) → is_digit b ≡ t → (is_digit b ≡ true) × (d ≡ b - 48)
    cases true e = (e, same_Some d (b - 48) (sym (rw e at h)))
    cases false e = absurd (none-some d (rw e at h))

module _ (line : Text) (at : ℕ) {d : ℕ} (h : digit_of (drop at line) ≡ Some d) where
  pub digit-within : at < length line
  digit-within = cases (ltb at (length line)) refl
    where
      cases : (t : Bool) → ltb at (length line) ≡ t → at < length line
      cases true e = ltb-true at (length line) e
      cases false e = absurd (none-some d (digit-none line at (ltb-false at (length line) e) ∙ h))

  here : drop at line ≡ get_or line at 0 ∷ drop (at + 1) line
  here = rest-cons line at digit-within

  first : (is_digit (get_or line at 0) ≡ true) × (d ≡ get_or line at 0 - 48)
  first = digit-some (get_or line at 0) (drop (at + 1) line) (rw here at h)

  bounds : (48 ≤ get_or line at 0) × (get_or line at 0 ≤ 57)
  bounds = digit-most (get_or line at 0) first.0

  pub digit_small : d ≤ 9
  digit_small = let f = first.1 in let b = bounds in omega arith

  pub number-zero : d ≡ 0 → past 0 (drop (at + 1) line) ≡ number (drop at line)
  unfolding number
  number-zero z = let f = first.1 in let b = bounds in rw (here, first.0, eq-eqb (get_or line at 0) 48 (omega arith), number)

  pub number_more : (d ≡ 0 → ⊥) → second_digit d (drop (at + 1) line) ≡ number (drop at line)
  unfolding number
  number_more z =
      let f = first.1 in let b = bounds in rw (f, here, first.0, ne_eqb (get_or line at 0) 48 (λ e. z (omega arith)), number)

  pub second_more : (n : ℕ) → past (10 * n + d) (drop (at + 1) line) ≡ second_digit n (drop at line)
  unfolding second_digit
  second_more n = rw (first.1, here, first.0, second_digit)

-- What a number comes to by its digits.
module _ (line : Text) where
  abbrev Read : Reading ℕ → Type 0
  Read r = Steps (λ n. n) line r (number line)

  pub number-none : digit_of line ≡ None → Read (Err (record { after = 0 }))
  number-none h = record { stands = record { says = number-stuck line h; within = omega arith } }

  module _ {tens : ℕ} (h : digit_of line ≡ Some tens) where
    pub zero-read : tens ≡ 0 → Read (Ok (record { value = 0; bytes = 1 }))
    zero-read z = let w = digit-within line 0 h in record { stands = record { says = number-zero line 0 h z; within = omega arith } }

    module _ (z : tens ≡ 0 → ⊥) where
      pub one-read : digit_of (drop 1 line) ≡ None → Read (Ok (record { value = tens; bytes = 1 }))
      one-read k =
          let w = digit-within line 0 h in
          record { stands = record { says = second_none tens (drop 1 line) k ∙ number_more line 0 h z; within = omega arith } }

      pub two-read : {ones : ℕ} → digit_of (drop 1 line) ≡ Some ones → Read (Ok (record { value = 10 * tens + ones; bytes = 2 }))
      two-read k =
          let w = digit-within line 1 k in
          record { stands = record { says = second_more line 1 k tens ∙ number_more line 0 h z; within = omega arith } }
