-- The lists of a line are lawful: names, pairs, rules and labels, to the end of the line.
-- Assumes nothing.
use mathlib.Core.Path.{◌≡◌, refl, sym, ap, subst}
use mathlib.Core.Bool.{Bool, true, false}
use mathlib.Core.List.{[], ◌∷◌, ◌++◌}
use lib.Dec.{T, eqb}
use lib.ListN.{drop}
use Rattle.meaning.specs.Bytes.{Text, ascii}
use Rattle.grammar.specs.Text.{Past, stuck, placed, literal, byte, lf, ended, is_rest, is_digit, is_lower, number, word, word_on, separated_on}
use Rattle.grammar.specs.Text.{separated}
use Rattle.grammar.specs.Forms.{comma, dot, colon, greater, part, label, word_list, pair, rule, pair_list, rule_list, label_list}
use Rattle.grammar.proofs.Onwards.{rest-line}
use Rattle.columns.proofs.Runs.{Form, bare, ◌⨾◌, Lawful, Any, lawful-same}
use Rattle.columns.proofs.Signs.{Unless, is_letter, literal-lawful, number-lawful, word-lawful, opens-byte}
use Rattle.columns.proofs.Lists.{list_lawful}
use Rattle.columns.proofs.Exceptions.{unless, unless-lawful}
use Rattle.columns.proofs.Likeness.{Like, like-bare, like-sign, like-then, like-last, word-then, before-sign, opens-sign, placed-lawful}

-- Parts, pairs and rules.
part-like : Like part (bare word ⨾ byte colon ⨾ bare number)
unfolding part
part-like = like-then (like-last _ (like-bare word)) (λ w. like-then (like-sign colon) (λ _. like-last _ (like-bare number)))

part-lawful : Lawful (Unless is_digit) (bare part)
unfolding is_lower is_digit
part-lawful =
    lawful-same part-like.like
    (before-sign colon (λ y. refl) (opens-sign colon (bare number)) word-lawful (word-then (colon ∷ []) number-lawful))

label-lawful : Lawful (λ q. Unless is_digit q × Unless (eqb dot) q) (bare label)
unfolding is_digit
label-lawful = list_lawful dot part part-lawful (λ x. refl)

pair-like : Like pair (bare word ⨾ byte greater ⨾ bare word)
unfolding pair
pair-like = like-then (like-last _ (like-bare word)) (λ a. like-then (like-sign greater) (λ _. like-last _ (like-last _ (like-bare word))))

pair-lawful : Lawful (Unless is_letter) (bare pair)
unfolding is_lower is_digit
pair-lawful =
    lawful-same pair-like.like
    (before-sign greater (λ y. refl) (opens-sign greater (bare word)) word-lawful (word-then (greater ∷ []) word-lawful))

rule-like : Like rule (bare label ⨾ byte greater ⨾ bare word)
unfolding rule
rule-like = like-then (like-bare label) (λ a. like-then (like-sign greater) (λ _. like-last _ (like-last _ (like-bare word))))

rule-lawful : Lawful (Unless is_letter) (bare rule)
unfolding is_digit
rule-lawful =
    lawful-same rule-like.like
    (before-sign greater (λ y. (refl, refl)) (opens-sign greater (bare word)) label-lawful (word-then (greater ∷ []) word-lawful))

-- Lists to the end of the line.
pub ended-lawful : Lawful Any ended
ended-lawful = literal-lawful (lf ∷ [])

entries-lawful : {A : Type 0} {May : Text → Type 0} (item : Text → Past A) → ((x : Text) → May (comma ∷ x)) → ((x : Text) → May (lf ∷ x))
    → Lawful May (bare item) → Lawful Any (bare (separated comma (placed item)) ⨾ ended)
entries-lawful item between behind h =
    before-sign lf (λ y. (behind y, refl)) (opens-byte lf) (list_lawful comma (placed item) (placed-lawful item h) between) ended-lawful

pub words-lawful : Lawful Any (bare word_list ⨾ ended)
unfolding is_lower is_digit
words-lawful = entries-lawful word (λ x. refl) (λ x. refl) word-lawful

pub pairs-lawful : Lawful Any (bare pair_list ⨾ ended)
unfolding is_lower is_digit
pairs-lawful = entries-lawful pair (λ x. refl) (λ x. refl) pair-lawful

pub rules-lawful : Lawful Any (bare rule_list ⨾ ended)
unfolding is_lower is_digit
rules-lawful = entries-lawful rule (λ x. refl) (λ x. refl) rule-lawful

-- Labels, of which `none` and `all` begin some.
abbrev pub some_labels : Form
some_labels = bare (separated comma (placed label)) ⨾ ended

some-lawful : Lawful Any some_labels
unfolding is_digit
some-lawful = entries-lawful label (λ x. (refl, refl)) (λ x. (refl, refl)) label-lawful

none_apart : (x : Text) → some_labels (ascii "none" ++ (lf ∷ x)) ≡ stuck (lf ∷ x)
unfolding separated_on part word word_on literal is_lower is_digit
none_apart x = refl

pub all_apart : (x : Text) → unless (ascii "none") some_labels (ascii "all" ++ (lf ∷ x)) ≡ stuck (lf ∷ x)
unfolding separated_on part word word_on literal is_lower is_digit is_rest
all_apart x = refl

pub labels-is : (s : Text) → (bare label_list ⨾ ended) s ≡ unless (ascii "none") some_labels s
unfolding label_list literal
labels-is s = by (is_rest (ascii "none") s) refl
  where
    by : (t : Bool) → is_rest (ascii "none") s ≡ t → (bare label_list ⨾ ended) s ≡ unless (ascii "none") some_labels s
    by true e =
        let p = rest-line (ascii "none") s (subst T (sym e) tt) in
        rw (e, label_list, unless) (ap (λ s. ended (drop 4 s)) p)
    by false e = rw (e, label_list, unless)

pub labels-lawful : Lawful Any (bare label_list ⨾ ended)
labels-lawful = lawful-same labels-is (unless-lawful (ascii "none") some_labels some-lawful none_apart)
