-- The forms of which lines are made read no LF.
-- Assumes nothing.
use mathlib.Core.Path.{◌≡◌, refl, sym, ap, subst, ◌∙◌}
use mathlib.Core.Bool.{Bool, true, not}
use mathlib.Core.List.{[], ◌∷◌, ◌++◌, append_assoc}
use Prim.Native.Nat.{ℕ, zero, suc, ◌-◌}
use lib.Dec.{T, eqb, eqb→eq, not_T}
use lib.ListN.{length, drop}
use Rattle.meaning.specs.Bytes.{Text, ascii}
use Rattle.meaning.proofs.Tests.{and_left, and_right, and_both}
use Rattle.grammar.specs.Text.{Past, past, onward, placed, literal, byte, starts, lf, ended, is_rest, is_digit, is_lower, second_digit, number, word}
use Rattle.grammar.specs.Text.{word_on, separated_on, separated}
use Rattle.grammar.specs.Forms.{comma, dot, colon, greater, part, label, pair, rule, label_list}
use Rattle.grammar.proofs.Onwards.{T→true, When, when-past, when-stuck, when-weaken, when-branch, onward→, literal→, rest→}
use Rattle.columns.specs.Farthest.{in_line}
use Rattle.columns.proofs.Signs.{is_letter}

-- What lies between two places in a text holds no LF.
pub record Over (s r : Text) : Type 0 where
  pub read : Text
  pub whole : s ≡ read ++ r
  pub inside : T (in_line read)

inside-append : (p q : Text) → T (in_line p) → T (in_line q) → T (in_line (p ++ q))
inside-append [] q h k = k
inside-append (b ∷ p) q h k =
    and_both (not (eqb lf b)) (in_line (p ++ q)) (and_left (not (eqb lf b)) (in_line p) h)
    (inside-append p q (and_right (not (eqb lf b)) (in_line p) h) k)

over_none : {s : Text} → Over s s
over_none = record { read = []; whole = refl; inside = tt }

pub over-join : {s q r : Text} → Over s q → Over q r → Over s r
over-join {r = r} h k =
    record {
      read = h.read ++ k.read;
      whole = h.whole ∙ ap (λ q. h.read ++ q) k.whole ∙ sym (append_assoc h.read k.read r);
      inside = inside-append h.read k.read h.inside k.inside;
    }

-- A byte that passes a test which LF does not pass.
over-byte : (test : ℕ → Bool) → (T (test lf) → ⊥) → (b : ℕ) (s : Text) → T (test b) → Over (b ∷ s) s
over-byte test no-lf b s h =
    record {
      read = b ∷ [];
      whole = refl;
      inside = and_both (not (eqb lf b)) true (not_T (eqb lf b) (λ e. no-lf (subst (λ c. T (test c)) (sym (eqb→eq lf b e)) h))) tt;
    }

-- Forms that read no LF, and forms that read up to one.
abbrev pub Inside : {A : Type 0} → Text → Past A → Type 0
Inside s m = When m (λ a r. Over s r)

abbrev pub Ends : {A : Type 0} → Text → Past A → Type 0
Ends s m = When m (λ a r. Over s (lf ∷ r))

pub then-over : {A B : Type 0} {s : Text} {g : Text → Text} {m : Past A} {f : A → Text → Past B} → Inside s m
    → ((a : A) (q : Text) → When (f a q) (λ b r. Over q (g r))) → When (onward m f) (λ b r. Over s (g r))
then-over h k = onward→ h (λ a q o. when-weaken (k a q) (λ b r i. over-join o i))

last-inside : {A B : Type 0} {s : Text} {m : Past A} (h : A → Text → B) → Inside s m → Inside s (onward m (λ a r. past (h a r) r))
last-inside h i = onward→ i (λ a r o. when-past o)

pub literal-inside : (w s : Text) → T (in_line w) → Inside s (literal w s)
literal-inside w s h = when-weaken (literal→ w s) (λ _ r e. record { read = w; whole = e; inside = h })

pub placed-inside : {A : Type 0} (form : Text → Past A) (s : Text) → Inside s (form s) → Inside s (placed form s)
placed-inside form s h = last-inside _ h

pub ended-ends : {B : Type 0} (s : Text) (b : B) → Ends s (onward (ended s) (λ _ r. past b r))
ended-ends s b = onward→ (literal→ (lf ∷ []) s) (λ _ r e. when-past (record { read = []; whole = e; inside = tt }))

second-inside : (first : ℕ) (s : Text) → Inside s (second_digit first s)
unfolding second_digit is_digit
second-inside first [] = when-past over_none
second-inside first (b ∷ s) = when-branch (is_digit b) (λ h. when-past (over-byte is_digit (λ h. h) b s h)) (λ _. when-past over_none)

pub number-inside : (s : Text) → Inside s (number s)
unfolding number is_digit
number-inside [] = when-stuck
number-inside (b ∷ s) =
    when-branch (is_digit b)
    (λ h. let o = over-byte is_digit (λ h. h) b s h in
    when-branch (eqb b 48) (λ _. when-past o) (λ _. when-weaken (second-inside (b - 48) s) (λ n r i. over-join o i)))
    (λ _. when-stuck)

letters-inside : (n : ℕ) (s : Text) → Inside s (word_on n s)
unfolding word_on is_lower is_digit
letters-inside zero s = when-past over_none
letters-inside (suc n) [] = when-past over_none
letters-inside (suc n) (b ∷ s) =
    when-branch (is_letter b)
    (λ h. onward→ (letters-inside n s) (λ w r i. when-past (over-join (over-byte is_letter (λ h. h) b s h) i))) (λ _. when-past over_none)

pub word-inside : (s : Text) → Inside s (word s)
unfolding word is_lower
word-inside [] = when-stuck
word-inside (b ∷ s) =
    when-branch (is_lower b)
    (λ h. onward→ (letters-inside 7 s) (λ w r i. when-past (over-join (over-byte is_lower (λ h. h) b s h) i))) (λ _. when-stuck)

pub sign-inside : (b : ℕ) → T (in_line (b ∷ [])) → (s : Text) → Inside s (byte b s)
sign-inside b h s = literal-inside (b ∷ []) s h

module _ {A : Type 0} (sign : ℕ) (h : T (in_line (sign ∷ []))) (item : Text → Past A) (k : (s : Text) → Inside s (item s)) where
  list_inside : (n : ℕ) (s : Text) → Inside s (separated_on sign item n s)
  unfolding separated_on
  list_inside zero s = when-stuck
  list_inside (suc n) s =
      onward→ (k s) (λ a r o. when-branch (starts sign r)
      (λ _. onward→ (sign-inside sign h r) (λ _ q i. onward→ (list_inside n q) (λ as' p j. when-past (over-join o (over-join i j)))))
      (λ _. when-past o))

part-inside : (s : Text) → Inside s (part s)
unfolding part
part-inside s =
    then-over (placed-inside word s (word-inside s)) (λ w r.
    then-over (sign-inside colon tt r) (λ _ q. last-inside _ (number-inside q)))

label_inside : (s : Text) → Inside s (label s)
label_inside s = list_inside dot tt part part-inside (suc (length s)) s

pub pair_inside : (s : Text) → Inside s (pair s)
unfolding pair
pair_inside s =
    then-over (placed-inside word s (word-inside s)) (λ w r.
    then-over (sign-inside greater tt r) (λ _ q. last-inside _ (placed-inside word q (word-inside q))))

pub rule-inside : (s : Text) → Inside s (rule s)
unfolding rule
rule-inside s =
    then-over (label_inside s) (λ w r.
    then-over (sign-inside greater tt r) (λ _ q. last-inside _ (placed-inside word q (word-inside q))))

pub entries-inside : {A : Type 0} (item : Text → Past A) → ((s : Text) → Inside s (item s)) → (s : Text) → Inside s (separated comma (placed item) s)
entries-inside item k s = list_inside comma tt (placed item) (λ s. placed-inside item s (k s)) (suc (length s)) s

pub labels-inside : (s : Text) → Inside s (label_list s)
unfolding label_list
labels-inside s =
    when-branch (is_rest (ascii "none") s)
    (λ h. let e = rest→ (ascii "none") s (T→true (is_rest (ascii "none") s) h) in
    when-past ((literal-inside (ascii "none") s tt).holds tt (drop 4 s) e.0))
    (λ _. entries-inside label label_inside s)
