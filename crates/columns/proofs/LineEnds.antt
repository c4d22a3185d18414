-- A line of right form holds one LF, at its end.
-- Assumes nothing.
use mathlib.Core.Path.{refl}
use mathlib.Core.List.{List, [], ◌∷◌}
use Prim.Native.Nat.{ℕ}
use lib.Dec.{T}
use Rattle.meaning.specs.Bytes.{Text, ascii}
use Rattle.meaning.specs.Descriptions.{Term}
use Rattle.grammar.specs.Text.{Past, past, stuck, literal, is_rest, number, word}
use Rattle.grammar.specs.Forms.{space, Places, Line, Listed, word_list, pair, rule, pair_list, rule_list, label_list, alone, of_name, operand, of_last}
use Rattle.grammar.specs.Forms.{of_two, of_list, Kind, kinds, farther, of_kind, count_line, name_line, term_line, order_line}
use Rattle.grammar.proofs.Onwards.{when-past, when-stuck, when-weaken, when-branch, rest-line}
use Rattle.columns.specs.Farthest.{Due, count, name, term, order, form_of, in_line, KeyInLine}
use Rattle.columns.proofs.Alternatives.{◌and◌}
use Rattle.columns.proofs.Inside.{Inside, Ends, over-join, then-over, literal-inside, sign-inside, number-inside, word-inside, placed-inside}
use Rattle.columns.proofs.Inside.{ended-ends, pair_inside, rule-inside, entries-inside, labels-inside}

-- What follows a kind.
operand-inside : (s : Text) → Inside s (operand s)
operand-inside s = then-over (sign-inside space tt s) (λ _ q. placed-inside number q (number-inside q))

last-ends : (make : ℕ → Term) (at : ℕ → Places) (s : Text) → Ends s (of_last make at s)
unfolding of_last
last-ends make at s = then-over (operand-inside s) (λ t q. ended-ends q _)

two_ends : (make : ℕ → ℕ → Term) (s : Text) → Ends s (of_two make s)
unfolding of_two
two_ends make s = then-over (operand-inside s) (λ t q. last-ends _ _ q)

list-ends : {A : Type 0} (list : Text → Past A) → ((s : Text) → Inside s (list s)) → (make : A → Listed) (s : Text) → Ends s (of_list list make s)
unfolding of_list
list-ends list k make s =
    then-over (operand-inside s) (λ t q. then-over (sign-inside space tt q) (λ _ p. then-over (k p) (λ l o. ended-ends o _)))

alone-ends : (t : Term) (s : Text) → Ends s (alone t s)
unfolding alone
alone-ends t s = ended-ends s _

name-ends : (s : Text) → Ends s (of_name s)
unfolding of_name
name-ends s = then-over (sign-inside space tt s) (λ _ r. then-over (placed-inside word r (word-inside r)) (λ w q. ended-ends q _))

abbrev AllEnd : List Kind → Type 0
AllEnd [] = Unit {0}
AllEnd (k ∷ ks) = (T (in_line k.word) × ((s : Text) → Ends s (k.rest s))) × AllEnd ks

farther-ends : (s r : Text) (m : Past Line) → Ends s m → Ends s (farther r m)
farther-ends s r (past l q) h = h
farther-ends s r (stuck q) h = when-stuck

kinds-end : (ks : List Kind) → AllEnd ks → (s : Text) → Ends s (of_kind ks s)
unfolding of_kind
kinds-end [] h s = when-stuck
kinds-end (k ∷ ks) h s = by (literal k.word s) (literal-inside k.word s h.0.0) (kinds-end ks h.1 s)
  where
    by : (m : Past (Unit {0})) → Inside s m → Ends s (of_kind ks s)
        → Ends {A = Line} s (elim m as (λ _. Past Line) [ past _ r ↦ k.rest r | stuck r ↦ farther r (of_kind ks s) ])
    by (past a r) i j = when-weaken (h.0.1 r) (λ l q o. over-join (i.holds a r refl) o)
    by (stuck r) i j = farther-ends s r (of_kind ks s) j

rests-end : AllEnd kinds
unfolding kinds
rests-end =
    (tt and alone-ends _) and (tt and alone-ends _) and (tt and name-ends)
    and (tt and last-ends _ _) and (tt and last-ends _ _) and (tt and last-ends _ _)
    and (tt and two_ends _) and (tt and two_ends _) and (tt and two_ends _)
    and (tt and two_ends _) and (tt and two_ends _) and (tt and two_ends _)
    and (tt and list-ends word_list (entries-inside word word-inside) _) and (tt and list-ends word_list (entries-inside word word-inside) _)
    and (tt and list-ends pair_list (entries-inside pair pair_inside) _) and (tt and list-ends rule_list (entries-inside rule rule-inside) _)
    and (tt and list-ends label_list labels-inside _) and tt

-- The lines.
pub line-ends : (d : Due) → KeyInLine d → (s : Text) → Ends s (form_of d s)
unfolding count_line name_line term_line order_line
line-ends (count key) h s =
    then-over (literal-inside key s h) (λ _ r. then-over (placed-inside number r (number-inside r)) (λ n q. ended-ends q _))
line-ends name h s =
    then-over (literal-inside (ascii "name=") s tt) (λ _ r. then-over (placed-inside word r (word-inside r)) (λ n q. ended-ends q _))
line-ends term h s = then-over (literal-inside (ascii "term=") s tt) (λ _ r. kinds-end kinds rests-end r)
line-ends order h s =
    then-over (literal-inside (ascii "order=") s tt) (λ _ r. when-branch (is_rest (ascii "all") r)
    (λ i. when-past (record { read = ascii "all"; whole = rest-line (ascii "all") r i; inside = tt }))
    (λ _. then-over (labels-inside r) (λ ls q. ended-ends q _)))
