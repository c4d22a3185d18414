-- The forms of which all others are made are lawful: words that stand as they are, numbers and names.
-- Assumes nothing.
use mathlib.Core.Path.{◌≡◌, refl, ◌∙◌}
use mathlib.Core.Bool.{Bool, true, false, ◌||◌}
use mathlib.Core.List.{[], ◌∷◌, ◌++◌}
use Prim.Native.Nat.{ℕ, zero, suc, ◌-◌}
use lib.Dec.{eqb}
use Rattle.meaning.specs.Bytes.{Text}
use Rattle.grammar.specs.Text.{Past, past, stuck, onward, literal, byte, is_digit, is_lower, second_digit, number, word_on, word}
use Rattle.grammar.proofs.Onwards.{literal→, literal←}
use Rattle.columns.proofs.Runs.{Form, forget, bare, ◌⨾◌, Passed, Ran, Lawful, Any, stuck-past, run-empty, run-byte, prefixed}

-- What was read changes nothing.
pub forget-last : {A B : Type 0} (m : Past A) (f : A → Text → B) → forget (onward m (λ a r. past (f a r) r)) ≡ forget m
forget-last (past a r) f = refl
forget-last (stuck r) f = refl

-- Past nothing, whatever there is.
passed-always : {May : Text → Type 0} (s : Text) → Passed May (past tt) s s
passed-always s = record { read = []; whole = refl; alike = λ b x y _. refl; goes_on = λ q _. refl }

-- A byte and then another form, or what comes out of the text from the byte on, as a test of the byte says.
byte-cases : (May : Text → Type 0) (F G out : Form) (b : ℕ) (s : Text) (test : Bool)
    → (test ≡ true → (x : Text) → F (b ∷ x) ≡ G x) → Ran May G s (G s)
    → (test ≡ false → (y : Text) → F (b ∷ y) ≡ out (b ∷ y)) → (((y : Text) → F (b ∷ y) ≡ out (b ∷ y)) → Ran May F (b ∷ s) (out (b ∷ s)))
    → Ran May F (b ∷ s) (F (b ∷ s))
byte-cases May F G out b s true e h i k = rw (e refl s) (prefixed May F G (b ∷ []) (e refl) s (G s) h)
byte-cases May F G out b s false e h i k = rw (i refl s) (k (i refl))

-- A word.
literal-ran : (w s : Text) → Ran Any (literal w) s (literal w s)
unfolding literal
literal-ran [] s = passed-always s
literal-ran (c ∷ w) [] = (c ∷ w, run-empty (λ q _. literal← (c ∷ w) q))
literal-ran (c ∷ w) (b ∷ s) =
    byte-cases Any (literal (c ∷ w)) (literal w) stuck b s (eqb c b)
    (λ e x. rw (e, literal)) (literal-ran w s)
    (λ e y. rw (e, literal)) (λ e. (c ∷ w, run-byte (λ q _. literal← (c ∷ w) q) b s e))

pub literal-lawful : (w : Text) → Lawful Any (literal w)
literal-lawful w = record { some = w; reads = λ q _. literal← w q; ran = literal-ran w }

-- A text that begins with a byte with which a number or a name goes on may not follow it.
abbrev pub Unless : (ℕ → Bool) → Text → Type 0
Unless test [] = Unit {0}
Unless test (b ∷ s) = test b ≡ false

abbrev pub is_letter : ℕ → Bool
is_letter b = is_lower b || is_digit b

-- A number.
second-before : (first : ℕ) (q : Text) → Unless is_digit q → bare (second_digit first) q ≡ past tt q
unfolding second_digit
second-before first [] h = refl
second-before first (b ∷ q) h = rw (h, second_digit)

second-ran : (first : ℕ) (s : Text) → Ran (Unless is_digit) (bare (second_digit first)) s (bare (second_digit first) s)
unfolding second_digit
second-ran first [] = run-empty (second-before first)
second-ran first (b ∷ s) =
    byte-cases (Unless is_digit) (bare (second_digit first)) (past tt) (past tt) b s (is_digit b)
    (λ e x. rw (e, second_digit)) (passed-always s)
    (λ e y. rw (e, second_digit)) (run-byte (second-before first) b s)

abbrev after_digit : ℕ → Bool → Text → Past ℕ
after_digit first zero? s = elim zero? [ true ↦ past 0 s | false ↦ second_digit first s ]

digit-ran : (first : ℕ) (t : Bool) (s : Text) → Ran (Unless is_digit) (bare (after_digit first t)) s (bare (after_digit first t) s)
digit-ran first true s = passed-always s
digit-ran first false s = second-ran first s

number-reads : (q : Text) → Unless is_digit q → bare number ((48 ∷ []) ++ q) ≡ past tt q
unfolding number is_digit
number-reads q h = refl

number-ran : (s : Text) → Ran (Unless is_digit) (bare number) s (bare number s)
unfolding number
number-ran [] = (48 ∷ [], run-empty number-reads)
number-ran (b ∷ s) =
    byte-cases (Unless is_digit) (bare number) (bare (after_digit (b - 48) (eqb b 48))) stuck b s (is_digit b)
    (λ e x. rw (e, number)) (digit-ran (b - 48) (eqb b 48) s)
    (λ e y. rw (e, number)) (λ e. (48 ∷ [], run-byte number-reads b s e))

pub number-lawful : Lawful (Unless is_digit) (bare number)
number-lawful = record { some = 48 ∷ []; reads = number-reads; ran = number-ran }

-- A name.
letters-before : (n : ℕ) (q : Text) → Unless is_letter q → bare (word_on n) q ≡ past tt q
unfolding word_on
letters-before zero q h = refl
letters-before (suc n) [] h = refl
letters-before (suc n) (b ∷ q) h = rw (h, word_on)

letters-ran : (n : ℕ) (s : Text) → Ran (Unless is_letter) (bare (word_on n)) s (bare (word_on n) s)
unfolding word_on
letters-ran zero s = passed-always s
letters-ran (suc n) [] = run-empty (letters-before (suc n))
letters-ran (suc n) (b ∷ s) =
    byte-cases (Unless is_letter) (bare (word_on (suc n))) (bare (word_on n)) (past tt) b s (is_letter b)
    (λ e x. rw (e, word_on) (forget-last (word_on n x) (λ w _. b ∷ w))) (letters-ran n s)
    (λ e y. rw (e, word_on)) (run-byte (letters-before (suc n)) b s)

word-reads : (q : Text) → Unless is_letter q → bare word ((97 ∷ []) ++ q) ≡ past tt q
unfolding word is_lower
word-reads q h = forget-last (word_on 7 q) (λ w _. 97 ∷ w) ∙ letters-before 7 q h

word-ran : (s : Text) → Ran (Unless is_letter) (bare word) s (bare word s)
unfolding word
word-ran [] = (97 ∷ [], run-empty word-reads)
word-ran (b ∷ s) =
    byte-cases (Unless is_letter) (bare word) (bare (word_on 7)) stuck b s (is_lower b)
    (λ e x. rw (e, word) (forget-last (word_on 7 x) (λ w _. b ∷ w))) (letters-ran 7 s)
    (λ e y. rw (e, word)) (λ e. (97 ∷ [], run-byte word-reads b s e))

pub word-lawful : Lawful (Unless is_letter) (bare word)
word-lawful = record { some = 97 ∷ []; reads = word-reads; ran = word-ran }

-- What a form reads begins with a byte.
abbrev pub Opens : ℕ → Form → Type 0
Opens b F = (x r : Text) → F x ≡ past tt r → (y : Text) × (x ≡ b ∷ y)

pub opens-byte : (b : ℕ) → Opens b (byte b)
opens-byte b x r e = (r, (literal→ (b ∷ []) x).holds tt r e)

pub opens-then : (b : ℕ) (F G : Form) → Opens b F → Opens b (F ⨾ G)
opens-then b F G h x r e = by (F x) refl e
  where
    by : (m : Past (Unit {0})) → F x ≡ m → onward m (λ _ s. G s) ≡ past tt r → (y : Text) × (x ≡ b ∷ y)
    by (past a s) i j = h x s i
    by (stuck s) i j = absurd (stuck-past j)
