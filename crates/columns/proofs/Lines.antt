-- Every line that can be due is lawful, whatever follows it.
-- Assumes nothing.
use mathlib.Core.Path.{◌≡◌, refl, ◌∙◌}
use mathlib.Core.Bool.{Bool, true, false}
use mathlib.Core.List.{[], ◌∷◌, ◌++◌}
use Prim.Native.Nat.{ℕ}
use lib.ListN.{drop}
use Rattle.meaning.specs.Bytes.{Text, ascii}
use Rattle.meaning.specs.Descriptions.{Term}
use Rattle.grammar.specs.Text.{Past, past, onward, literal, byte, lf, ended, is_rest, is_digit, is_lower, number, word}
use Rattle.grammar.specs.Forms.{space, Places, Listed, OrderLine, all, only, word_list, pair_list, rule_list, label_list, alone, of_name, operand}
use Rattle.grammar.specs.Forms.{of_last, of_two, of_list, kinds, of_kind, count_line, name_line, term_line, order_line}
use Rattle.columns.specs.Farthest.{Due, count, name, term, order, form_of}
use Rattle.columns.proofs.Runs.{Form, forget, bare, ◌⨾◌, Lawful, Any, lawful-same}
use Rattle.columns.proofs.Signs.{Unless, number-lawful, word-lawful, Opens, opens-byte, opens-then}
use Rattle.columns.proofs.Alternatives.{apart, Lawfuls, kinds-lawful, ◌and◌}
use Rattle.columns.proofs.Exceptions.{unless, unless-lawful}
use Rattle.columns.proofs.Likeness.{Like, like-bare, like-literal, like-sign, like-then, like-last, word-then, before-sign, opens-sign}
use Rattle.columns.proofs.Entries.{ended-lawful, words-lawful, pairs-lawful, rules-lawful, labels-is, labels-lawful, all_apart}

-- What follows a kind.
alone-lawful : (t : Term) → Lawful Any (bare (alone t))
unfolding alone
alone-lawful t = lawful-same (like-last _ (like-sign lf)).like ended-lawful

name-like : Like of_name (byte space ⨾ bare word ⨾ ended)
unfolding of_name
name-like = like-then (like-sign space) (λ _. like-then (like-last _ (like-bare word)) (λ w. like-last _ (like-sign lf)))

word-ended : Lawful Any (bare word ⨾ ended)
unfolding is_lower is_digit
word-ended = before-sign lf (λ y. refl) (opens-byte lf) word-lawful ended-lawful

number-ended : Lawful Any (bare number ⨾ ended)
unfolding is_digit
number-ended = before-sign lf (λ y. refl) (opens-byte lf) number-lawful ended-lawful

name-lawful : Lawful Any (bare of_name)
name-lawful = lawful-same name-like.like (word-then (space ∷ []) word-ended)

abbrev spaced : Form
spaced = byte space ⨾ bare number

spaced-lawful : Lawful (Unless is_digit) spaced
spaced-lawful = word-then (space ∷ []) number-lawful

operand-like : Like operand spaced
operand-like = like-then (like-sign space) (λ _. like-last _ (like-bare number))

last-like : (make : ℕ → Term) (at : ℕ → Places) → Like (of_last make at) (spaced ⨾ ended)
unfolding of_last
last-like make at = like-then operand-like (λ t. like-last _ (like-sign lf))

last-ended : Lawful Any (spaced ⨾ ended)
unfolding is_digit
last-ended = before-sign lf (λ y. refl) (opens-byte lf) spaced-lawful ended-lawful

last-lawful : (make : ℕ → Term) (at : ℕ → Places) → Lawful Any (bare (of_last make at))
last-lawful make at = lawful-same (last-like make at).like last-ended

two-like : (make : ℕ → ℕ → Term) → Like (of_two make) (spaced ⨾ spaced ⨾ ended)
unfolding of_two
two-like make = like-then operand-like (λ t. last-like _ _)

spaced-then : {G : Form} → Opens space G → Lawful Any G → Lawful Any (spaced ⨾ G)
unfolding is_digit
spaced-then o g = before-sign space (λ y. refl) o spaced-lawful g

two-lawful : (make : ℕ → ℕ → Term) → Lawful Any (bare (of_two make))
two-lawful make = lawful-same (two-like make).like (spaced-then (opens-then space spaced ended (opens-sign space (bare number))) last-ended)

list-like : {A : Type 0} (list : Text → Past A) (make : A → Listed) → Like (of_list list make) (spaced ⨾ byte space ⨾ bare list ⨾ ended)
unfolding of_list
list-like list make =
    like-then operand-like (λ t. like-then (like-sign space) (λ _. like-then (like-bare list) (λ l. like-last _ (like-sign lf))))

listed-lawful : {A : Type 0} (list : Text → Past A) (make : A → Listed) → Lawful Any (bare list ⨾ ended) → Lawful Any (bare (of_list list make))
listed-lawful list make h = lawful-same (list-like list make).like (spaced-then (opens-sign space (bare list ⨾ ended)) (word-then (space ∷ []) h))

kinds-apart : apart kinds ≡ true
unfolding kinds of_kind literal
kinds-apart = refl

rests-lawful : Lawfuls kinds
unfolding kinds
rests-lawful =
    alone-lawful _ and alone-lawful _ and name-lawful
    and last-lawful _ _ and last-lawful _ _ and last-lawful _ _
    and two-lawful _ and two-lawful _ and two-lawful _ and two-lawful _ and two-lawful _ and two-lawful _
    and listed-lawful word_list _ words-lawful and listed-lawful word_list _ words-lawful
    and listed-lawful pair_list _ pairs-lawful and listed-lawful rule_list _ rules-lawful and listed-lawful label_list _ labels-lawful and tt

terms-lawful : Lawful Any (bare (of_kind kinds))
unfolding kinds
terms-lawful = kinds-lawful _ _ kinds-apart rests-lawful

-- The lines.
count-like : (key : Text) → Like (count_line key) (literal key ⨾ bare number ⨾ ended)
unfolding count_line
count-like key = like-then (like-literal key) (λ _. like-then (like-last _ (like-bare number)) (λ n. like-last _ (like-sign lf)))

names-like : Like name_line (literal (ascii "name=") ⨾ bare word ⨾ ended)
unfolding name_line
names-like = like-then (like-literal (ascii "name=")) (λ _. like-then (like-last _ (like-bare word)) (λ w. like-last _ (like-sign lf)))

term-like : Like term_line (literal (ascii "term=") ⨾ bare (of_kind kinds))
unfolding term_line
term-like = like-then (like-literal (ascii "term=")) (λ _. like-bare (of_kind kinds))

only-like : Like (λ r. onward (label_list r) (λ ls q. onward (ended q) (λ _ p. past (only ls) p))) (bare label_list ⨾ ended)
only-like = like-then (like-bare label_list) (λ ls. like-last _ (like-sign lf))

order-like : Like order_line (literal (ascii "order=") ⨾ unless (ascii "all") (bare label_list ⨾ ended))
unfolding order_line
order-like = like-then (like-literal (ascii "order=")) (λ _. record { like = λ r. by r (is_rest (ascii "all") r) })
  where
    by : (r : Text) (t : Bool)
        → forget {A = OrderLine} (elim t as (λ _. Past OrderLine) [
          | true ↦ past all (drop 4 r)
          | false ↦ onward (label_list r) (λ ls q. onward (ended q) (λ _ p. past (only ls) p))
        ])
        ≡ elim t as (λ _. Past (Unit {0})) [ true ↦ past tt (drop 4 r) | false ↦ (bare label_list ⨾ ended) r ]
    by r true = refl
    by r false = only-like.like r

pub line-lawful : (d : Due) → Lawful Any (bare (form_of d))
line-lawful (count key) = lawful-same (count-like key).like (word-then key number-ended)
line-lawful name = lawful-same names-like.like (word-then (ascii "name=") word-ended)
line-lawful term = lawful-same term-like.like (word-then (ascii "term=") terms-lawful)
line-lawful order =
    lawful-same order-like.like
    (word-then (ascii "order=")
    (unless-lawful (ascii "all") (bare label_list ⨾ ended) labels-lawful (λ x. labels-is (ascii "all" ++ (lf ∷ x)) ∙ all_apart x)))
