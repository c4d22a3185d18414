-- What a line of right form says once names and counts are known, and which fault it then has, with the place where that begins.
-- Assumes nothing.
use Rattle.std.specs.Prelude.{Bool, true, false, List, [], ◌∷◌, map, ℕ, suc, ◌+◌, leb, ltb, length}
use Rattle.meaning.specs.Bytes.{Text}
use Rattle.meaning.specs.Labels as L
use Rattle.meaning.specs.Labels.{Label, empty, several, plus}
use Rattle.meaning.specs.Descriptions as D
use Rattle.meaning.specs.Descriptions.{Term, act, tau, delta, ref, sum, cond, choice, ifelse, seq, merge, lmerge, sync, wrap, Operator, Order}
use Rattle.meaning.specs.Answers.{Fault, name, range, amount, fault_number}
use Rattle.grammar.specs.Text.{Placed, same_text}
use Rattle.grammar.specs.Forms.{Part, Parts, WordPair, WordRule, Listed, block, hide, rename, comm, allow, Places, Line, plain, acts, wraps}
use Rattle.grammar.specs.Forms.{OrderLine, all, only}

-- No fault, or one with its place. Of two the smaller number stays, and of two with one number the first: faults are joined from the
-- left to the right, so that it is the leftmost (`term-leftmost` and `order-leftmost` in the crate `columns`).
pub data Found : Type 0 where
  fine : Found
  fault : Fault → (from : ℕ) → Found

abbrev pub smaller : Bool → Found → Found → Found
smaller true f g = f
smaller false f g = g

abbrev pub worse : Found → Found → Found
worse fine g = g
worse (fault x p) fine = fault x p
worse (fault x p) (fault y q) = smaller (leb (fault_number x) (fault_number y)) (fault x p) (fault y q)

abbrev pub unless : Bool → Fault → (from : ℕ) → Found
unless true x from = fine
unless false x from = fault x from

-- What is asked of an entry of a list, and of a part of a label: its own fault, the number by which it ascends, how much it counts, and
-- where it is faulted for its order or for being too much.
pub record Item : Type 0 where
  pub own : Found
  pub key : ℕ
  pub weight : ℕ
  pub from : ℕ

-- The faults of items, from the left to the right: each one's own; that it does not come after the one before it, where its number has to be
-- at least `floor`; and that with it there is more than the limit, where `total` was counted before it.
unfoldable pub items_from : (limit floor total : ℕ) → List Item → Found
items_from limit floor total [] = fine
items_from limit floor total (i ∷ is) =
    worse (worse i.own (worse (unless (leb floor i.key) amount i.from) (unless (leb (total + i.weight) limit) amount i.from)))
    (items_from limit (suc i.key) (total + i.weight) is)

unfoldable pub items_fault : (limit : ℕ) → List Item → Found
items_fault limit is = items_from limit 0 0 is

-- The number of a name among those given; a name that is not there has the number after the last.
unfoldable pub name_number : List Text → Text → ℕ
name_number [] w = 0
name_number (v ∷ vs) w = elim (same_text v w) [ true ↦ 0 | false ↦ suc (name_number vs w) ]

unfoldable pub name_fault : List Text → Placed Text → Found
name_fault words w = unless (ltb (name_number words w.it) (length words)) name w.from

-- A label: its parts added up.
unfoldable pub label_said : List Text → Parts → Label
label_said words [] = empty (length words)
label_said words (p ∷ ps) = plus (several (length words) (name_number words p.name.it) p.times) (label_said words ps)

unfoldable pub actions : Parts → ℕ
actions [] = 0
actions (p ∷ ps) = p.times + actions ps

-- Its faults: an unknown name where that begins; a count of 0, parts out of order and over 31 actions where the entry begins that it is, or
-- is part of.
abbrev pub part_item : List Text → (from : ℕ) → Part → Item
part_item words from p =
    record {
      own = worse (name_fault words p.name) (unless (leb 1 p.times) amount from);
      key = name_number words p.name.it;
      weight = p.times;
      from = from;
    }

unfoldable pub label_fault : List Text → (from : ℕ) → Parts → Found
label_fault words from ps = items_fault 31 (map (part_item words from) ps)

-- The lists. Names and pairs have no maximum.
abbrev pub number_said : List Text → Parts → ℕ
number_said words ps = L.number (label_said words ps)

abbrev pub name_item : List Text → Placed Text → Item
name_item words w = record { own = name_fault words w; key = name_number words w.it; weight = 0; from = w.from }

unfoldable pub words_fault : List Text → List (Placed Text) → Found
words_fault words ws = items_fault 0 (map (name_item words) ws)

abbrev pub pair_fault : List Text → WordPair → Found
pair_fault words p = worse (name_fault words p.left) (name_fault words p.right)

abbrev pub pair_item : List Text → Placed WordPair → Item
pair_item words p = record { own = pair_fault words p.it; key = name_number words p.it.left.it; weight = 0; from = p.from }

unfoldable pub pairs_fault : List Text → List (Placed WordPair) → Found
pairs_fault words ps = items_fault 0 (map (pair_item words) ps)

abbrev pub rule_fault : List Text → (from : ℕ) → WordRule → Found
rule_fault words from r =
    worse (worse (label_fault words from r.left) (unless (leb 2 (actions r.left)) amount from)) (name_fault words r.right)

abbrev pub rule_item : List Text → Placed WordRule → Item
rule_item words r = record { own = rule_fault words r.from r.it; key = number_said words r.it.left; weight = 1; from = r.from }

unfoldable pub rules_fault : List Text → List (Placed WordRule) → Found
rules_fault words rs = items_fault 8 (map (rule_item words) rs)

abbrev pub label_item : List Text → Placed Parts → Item
label_item words l = record { own = label_fault words l.from l.it; key = number_said words l.it; weight = 1; from = l.from }

unfoldable pub labels_fault : List Text → List (Placed Parts) → Found
labels_fault words ls = items_fault 32 (map (label_item words) ls)

abbrev pub list_fault : List Text → Listed → Found
list_fault words (block ws) = words_fault words ws
list_fault words (hide ws) = words_fault words ws
list_fault words (rename ps) = pairs_fault words ps
list_fault words (comm rs) = rules_fault words rs
list_fault words (allow ls) = labels_fault words ls

abbrev pub pair_said : List Text → WordPair → D.Pair
pair_said words p = record { left = name_number words p.left.it; right = name_number words p.right.it }

abbrev pub rule_said : List Text → WordRule → D.Rule
rule_said words r = record { left = label_said words r.left; right = name_number words r.right.it }

abbrev pub operator_said : List Text → Listed → Operator
operator_said words (block ws) = D.block (map (λ w. name_number words w.it) ws)
operator_said words (hide ws) = D.hide (map (λ w. name_number words w.it) ws)
operator_said words (rename ps) = D.rename (map (λ p. pair_said words p.it) ps)
operator_said words (comm rs) = D.comm (map (λ r. rule_said words r.it) rs)
operator_said words (allow ls) = D.allow (map (λ l. label_said words l.it) ls)

-- Operands have smaller numbers than the term, references one below the number of equations.
abbrev pub number_fault : (bound n from : ℕ) → Found
number_fault bound n from = unless (ltb n bound) range from

abbrev pub both_fault : (bound t u : ℕ) → Places → Found
both_fault bound t u at = worse (number_fault bound t at.first) (number_fault bound u at.second)

abbrev pub range_fault : (equations n : ℕ) → Term → Places → Found
range_fault equations n (act a) at = fine
range_fault equations n tau at = fine
range_fault equations n delta at = fine
range_fault equations n (ref e) at = number_fault equations e at.first
range_fault equations n (sum t) at = number_fault n t at.first
range_fault equations n (cond t) at = number_fault n t at.first
range_fault equations n (choice t u) at = both_fault n t u at
range_fault equations n (ifelse t u) at = both_fault n t u at
range_fault equations n (seq t u) at = both_fault n t u at
range_fault equations n (merge t u) at = both_fault n t u at
range_fault equations n (lmerge t u) at = both_fault n t u at
range_fault equations n (sync t u) at = both_fault n t u at
range_fault equations n (wrap o t) at = number_fault n t at.first

-- A term line, by the term's number, and the order's line. (A term's names and lists have no fault with the number of its operands', so that
-- it does not matter which is joined first.)
abbrev pub term_said : List Text → Line → Term
term_said words (plain t at) = t
term_said words (acts w) = act (name_number words w.it)
term_said words (wraps l t) = wrap (operator_said words l) t.it

abbrev pub places_of : Line → Places
places_of (plain t at) = at
places_of (acts w) = record { first = w.from; second = w.from }
places_of (wraps l t) = record { first = t.from; second = t.from }

unfoldable pub words_of_fault : List Text → Line → Found
words_of_fault words (plain t at) = fine
words_of_fault words (acts w) = name_fault words w
words_of_fault words (wraps l t) = list_fault words l

unfoldable pub term_fault : List Text → ℕ → ℕ → Line → Found
term_fault words equations n l = worse (words_of_fault words l) (range_fault equations n (term_said words l) (places_of l))

abbrev pub order_said : List Text → OrderLine → Order
order_said words all = D.all
order_said words (only ls) = D.only (map (λ l. label_said words l.it) ls)

unfoldable pub order_fault : List Text → OrderLine → Found
order_fault words all = fine
order_fault words (only ls) = labels_fault words ls
