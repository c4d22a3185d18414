-- Names packed in a word: which text a word stands for, and how the name from a place on is read.
-- Assumes nothing.
use mathlib.Core.Path.{◌≡◌, refl, ap, ◌∙◌}
use mathlib.Core.Bool.{Bool, true, false, ◌&&◌, ◌||◌}
use mathlib.Core.List.{[], ◌∷◌, ◌++◌, append-nil}
use Prim.Native.Nat.{ℕ, zero, suc, ◌+◌, ◌*◌, ◌-◌, ◌/◌, ◌%◌, ◌^◌, ◌≤◌, ◌<◌}
use native.Mathlib.Nat.{pow-succ', pow-le-pow_right, mul-le-mul, le_refl, one-le-pow, not-suc-le-zero}
use native.Mathlib.Numerals.{add-one}
use native.Mathlib.Omega.{arith}
use lib.Dec.{T, leb, ltb, leb→le, lit<}
use borrow.Author.Tests.{ne_eqb, ltb-true, ltb-false}
use Rattle.meaning.proofs.Tests.{and_left, and_right}
use Rattle.meaning.specs.Legal.{Each}
use lib.ListN.{length, get_or, take, drop, drop_of_length-le, length-drop}
use lib.Seq.{take-suc, get_or-drop, append_snoc, length-take-le}
use Rattle.meaning.specs.Bytes.{Text}
use Rattle.table.specs.Decoded.{name_of}
use Rattle.table.specs.Encoded.{word_of}
use Rattle.table.proofs.Shifts.{shift-pow}
use Rattle.grammar.specs.Text.{Past, past, stuck, onward, is_lower, is_digit, word_on, word}
use Rattle.words.specs.Steps.{Stands}
use Rattle.words.proofs.Rests.{rest-cons}

-- The name from a place on, letter by letter.
abbrev pub prefixed : Text → Text → Text → Past Text
prefixed p w r = past (p ++ w) r

pub take_snoc : (line : Text) (at next : ℕ) → at ≤ next → next < length line
    → take (next + 1 - at) (drop at line) ≡ take (next - at) (drop at line) ++ (get_or line next 0 ∷ [])
take_snoc line at next h k =
    let e : next + 1 - at ≡ suc (next - at) = omega arith in
    let f : at + (next - at) ≡ next = omega arith in
    let g : next - at < length (drop at line) = rw length-drop (omega arith) in
    rw (e, take-suc (drop at line) (next - at) 0 g, get_or-drop, f)

module _ (line : Text) (at : ℕ) where
  pub word_none : length line ≤ at → stuck (drop at line) ≡ word (drop at line)
  unfolding word
  word_none h = rw (drop_of_length-le line h)

  pub word-other : at < length line → (leb 97 (get_or line at 0) && leb (get_or line at 0) 122) ≡ false → stuck (drop at line) ≡ word (drop at line)
  unfolding word is_lower
  word-other h e = rw (rest-cons line at h, e, word)

  pub word-start : at < length line → (leb 97 (get_or line at 0) && leb (get_or line at 0) 122) ≡ true
      → onward (word_on 7 (drop (at + 1) line)) (prefixed (take (at + 1 - at) (drop at line))) ≡ word (drop at line)
  unfolding word is_lower
  word-start h e = let k : at + 1 - at ≡ 1 = omega arith in rw (k, rest-cons line at h, e, word)

-- a letter more is a letter after what was read
onward-prefixed : (p : Text) (b : ℕ) (x : Past Text) → onward x (prefixed (p ++ (b ∷ []))) ≡ onward (onward x (λ w r. past (b ∷ w) r)) (prefixed p)
onward-prefixed p b (past w r) = ap (λ t. past t r) (append_snoc p b w)
onward-prefixed p b (stuck r) = refl

module _ (line : Text) (next : ℕ) (p : Text) where
  on-full : (room : ℕ) → room ≤ 0 → past p (drop next line) ≡ onward (word_on room (drop next line)) (prefixed p)
  unfolding word_on
  on-full zero h = rw append-nil
  on-full (suc room) h = absurd (not-suc-le-zero h)

  on_none : (room : ℕ) → length line ≤ next → past p (drop next line) ≡ onward (word_on room (drop next line)) (prefixed p)
  unfolding word_on
  on_none zero h = rw append-nil
  on_none (suc room) h = rw (drop_of_length-le line h, append-nil)

  -- no room, or nothing more in the line
  pub on-end : (room : ℕ) → (next < length line → room ≤ 0) → past p (drop next line) ≡ onward (word_on room (drop next line)) (prefixed p)
  on-end room h = cases (ltb next (length line)) refl
    where
      cases : (t : Bool) → ltb next (length line) ≡ t → past p (drop next line) ≡ onward (word_on room (drop next line)) (prefixed p)
      cases true e = on-full room (h (ltb-true next (length line) e))
      cases false e = on_none room (ltb-false next (length line) e)

  pub on-other : (room : ℕ) → next < length line → (is_lower (get_or line next 0) || is_digit (get_or line next 0)) ≡ false
      → past p (drop next line) ≡ onward (word_on room (drop next line)) (prefixed p)
  unfolding word_on
  on-other zero h e = rw append-nil
  on-other (suc room) h e = rw (rest-cons line next h, e, word_on, append-nil)

  pub on-more : (room : ℕ) → 0 < room → next < length line → (is_lower (get_or line next 0) || is_digit (get_or line next 0)) ≡ true
      → onward (word_on (room - 1) (drop (next + 1) line)) (prefixed (p ++ (get_or line next 0 ∷ []))) ≡ onward (word_on room (drop next line)) (prefixed p)
  unfolding word_on
  on-more zero z h e = absurd (not-suc-le-zero z)
  on-more (suc room) z h e =
      let k : suc room - 1 ≡ room = omega arith in
      rw (k, rest-cons line next h, e, word_on) (onward-prefixed p (get_or line next 0) (word_on room (drop (next + 1) line)))

-- a word of so many bytes
pub word_small : (k : ℕ) (s : Text) → length s ≤ k → ((i : ℕ) → get_or s i 0 < 256) → word_of s < 256 ^ k
unfolding word_of
word_small k [] h b = one-le-pow k 256 (omega arith)
word_small zero (x ∷ s) h b = absurd (not-suc-le-zero h)
word_small (suc k) (x ∷ s) h b =
    let ih = word_small k s (omega arith) (λ i. b (suc i)) in
    rw (pow-succ' 256 k) (omega (arith, b 0))

-- a byte more stands above those before it
packed-snoc : (s : Text) (b : ℕ) → word_of (s ++ (b ∷ [])) ≡ word_of s + b * 256 ^ length s
unfolding word_of
packed-snoc [] b = omega arith
packed-snoc (x ∷ s) b = let ih = packed-snoc s b in rw (pow-succ' 256 (length s)) (omega arith)

-- A name that was read has at most eight bytes, none of them 0: its word gives it back.
abbrev Proper : ℕ → Text → Type 0
Proper k w = (length w ≤ k) × Each (λ b. (1 ≤ b) × (b < 256)) w

abbrev ProperPast : ℕ → Past Text → Type 0
ProperPast k (past w r) = Proper k w
ProperPast k (stuck r) = Unit {0}

is_lower→byte : (b : ℕ) → is_lower b ≡ true → (1 ≤ b) × (b < 256)
unfolding is_lower
is_lower→byte b e =
    let t : T (leb 97 b && leb b 122) = rw e tt in
    let low = leb→le 97 b (and_left (leb 97 b) (leb b 122) t) in
    let high = leb→le b 122 (and_right (leb 97 b) (leb b 122) t) in
    (omega (arith, low), omega (arith, high))

is_digit→byte : (b : ℕ) → is_digit b ≡ true → (1 ≤ b) × (b < 256)
unfolding is_digit
is_digit→byte b e =
    let t : T (leb 48 b && leb b 57) = rw e tt in
    let low = leb→le 48 b (and_left (leb 48 b) (leb b 57) t) in
    let high = leb→le b 57 (and_right (leb 48 b) (leb b 57) t) in
    (omega (arith, low), omega (arith, high))

is_sign→byte : (b : ℕ) → (is_lower b || is_digit b) ≡ true → (1 ≤ b) × (b < 256)
is_sign→byte b e = cases (is_lower b) refl
  where
    cases : (t : Bool) → is_lower b ≡ t → (1 ≤ b) × (b < 256)
    cases true h = is_lower→byte b h
    cases false h = is_digit→byte b (rw h at e)

onward-proper : (k b : ℕ) (x : Past Text) → (1 ≤ b) × (b < 256) → ProperPast k x → ProperPast (suc k) (onward x (λ w r. past (b ∷ w) r))
onward-proper k b (past w r) h p = (omega (arith, p.0), (h, p.1))
onward-proper k b (stuck r) h p = tt

word-on-proper : (k : ℕ) (s : Text) → ProperPast k (word_on k s)
unfolding word_on
word-on-proper zero s = (omega arith, tt)
word-on-proper (suc k) [] = (omega arith, tt)
word-on-proper (suc k) (b ∷ s) = cases (is_lower b || is_digit b) refl (word-on-proper k s)
  where
    cases : (t : Bool) → (is_lower b || is_digit b) ≡ t → ProperPast k (word_on k s) → ProperPast (suc k) (word_on (suc k) (b ∷ s))
    cases true e p = rw (e, word_on) (onward-proper k b (word_on k s) (is_sign→byte b e) p)
    cases false e p = rw (e, word_on) (omega arith, tt)

word-proper : (s : Text) → ProperPast 8 (word s)
unfolding word
word-proper [] = tt
word-proper (b ∷ s) = cases (is_lower b) refl
  where
    cases : (t : Bool) → is_lower b ≡ t → ProperPast 8 (word (b ∷ s))
    cases true e = rw (e, word) (onward-proper 7 b (word_on 7 s) (is_lower→byte b e) (word-on-proper 7 s))
    cases false e = rw (e, word) tt

pub word→proper : {w r : Text} (s : Text) → past w r ≡ word s → (length w ≤ 8) × Each (λ b. (1 ≤ b) × (b < 256)) w
word→proper {w} {r} s e = let p = word-proper s in rw (← e) at p

name-none : (k : ℕ) → name_of k 0 ≡ []
unfolding name_of
name-none zero = refl
name-none (suc k) = refl

name-word : (k : ℕ) (w : Text) → length w ≤ k → Each (λ b. (1 ≤ b) × (b < 256)) w → name_of k (word_of w) ≡ w
unfolding name_of word_of
name-word k [] h p = name-none k
name-word zero (b ∷ w) h p = absurd (not-suc-le-zero h)
name-word (suc k) (b ∷ w) h p =
    let n = ne_eqb (b + 256 * word_of w) 0 (λ z. omega (arith, p.0.0, z)) in
    let lo : (b + 256 * word_of w) % 256 ≡ b = omega (arith, p.0.1) in
    let hi : (b + 256 * word_of w) / 256 ≡ word_of w = omega (arith, p.0.1) in
    rw (n, name_of, lo, hi) (ap (λ t. b ∷ t) (name-word k w (omega arith) p.1))

pub name_back : {w r : Text} (s : Text) → past w r ≡ word s → name_of 8 (word_of w) ≡ w
name_back {w} s e = let p = word→proper s e in name-word 8 w p.0 p.1

-- A name as far as it was read: so many bytes, packed, and what is to come.
pub record Worded (line : Text) (at w bytes next : ℕ) : Type 0 where
  pub some : 1 ≤ bytes
  pub few : bytes ≤ 8
  pub here : next ≡ at + bytes
  pub within : next ≤ length line
  pub packed : w ≡ word_of (take (next - at) (drop at line))
  pub small : w < 256 ^ bytes
  pub ahead : onward (word_on (8 - bytes) (drop next line)) (prefixed (take (next - at) (drop at line))) ≡ word (drop at line)

module _ (line : Text) (at : ℕ) where
  pub worded-start : at < length line → (leb 97 (get_or line at 0) && leb (get_or line at 0) 122) ≡ true → get_or line at 0 < 256
      → Worded line at (get_or line at 0) 1 (at + 1)
  unfolding word_of
  worded-start h e b =
      let k : at + 1 - at ≡ 1 = omega arith in
      record {
        some = omega arith;
        few = omega arith;
        here = refl;
        within = omega arith;
        packed = rw (k, rest-cons line at h) (omega arith);
        small = omega arith;
        ahead = word-start line at h e;
      }

  module _ {w bytes next : ℕ} (x : Worded line at w bytes next) where
    -- nothing more belongs to it
    pub worded-end : past (take (next - at) (drop at line)) (drop next line)
        ≡ onward (word_on (8 - bytes) (drop next line)) (prefixed (take (next - at) (drop at line)))
        → Stands line next (past (name_of 8 w) (drop next line)) (word (drop at line))
    worded-end e =
        let says = e ∙ x.ahead in
        record { says = ap (λ (s : Text). past s (drop next line)) (ap (name_of 8) x.packed ∙ name_back (drop at line) says) ∙ says; within = x.within }

    -- a byte more, above those before it
    byte_fits : (b : ℕ) → b < 256 → b * 256 ^ bytes ≤ 255 * 256 ^ bytes
    byte_fits b l = mul-le-mul (omega arith) (le_refl (256 ^ bytes))

    byte-moved : (b : ℕ) → b < 256 → bytes < 8 → (b * 2 ^ (8 * bytes)) % 2 ^ 64 ≡ b * 256 ^ bytes
    byte-moved b l h =
        let p : 256 ^ bytes ≤ 256 ^ 7 = pow-le-pow_right {n = 256} (lit< tt) {j = 7} (omega arith) in
        let q = byte_fits b l in
        shift-pow 8 b bytes (omega arith)

    pub worded-more : (b : ℕ) → b ≡ get_or line next 0 → b < 256 → bytes < 8 → next < length line → (is_lower b || is_digit b) ≡ true
        → Worded line at (w + (b * 2 ^ (8 * bytes)) % 2 ^ 64) (bytes + 1) (next + 1)
    worded-more b e l h k g =
        let p = take (next - at) (drop at line) in
        let snoc = take_snoc line at next (omega (arith, x.here)) k in
        let long : length p ≡ bytes = length-take-le (next - at) (drop at line) (rw length-drop (omega (arith, x.here))) ∙ omega (arith, x.here) in
        let left : 8 - bytes - 1 ≡ 8 - (bytes + 1) = omega arith in
        let q = byte_fits b l in
        record {
          some = omega arith;
          few = omega arith;
          here = omega (arith, x.here);
          within = omega arith;
          packed = rw (byte-moved b l h, snoc, ← e, packed-snoc p b, long, ← x.packed);
          small = rw (byte-moved b l h, add-one bytes, pow-succ' 256 bytes) (omega (arith, x.small));
          ahead = rw (snoc, ← left) (on-more line next p (8 - bytes) (omega arith) k (rw e at g)) ∙ x.ahead;
        }
