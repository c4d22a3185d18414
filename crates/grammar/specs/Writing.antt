-- Writing a description: the lines that docs/FORMAT.md asks for, from what they say. A second view of the text, made without
-- the reading.
-- Assumes nothing.
use Rattle.std.specs.Prelude.{◌≡◌, Bool, ◌||◌, List, [], ◌∷◌, ◌++◌, map, ℕ, ◌≤◌, T, length, get_or}
use Rattle.meaning.specs.Bytes.{Text, ascii}
use Rattle.meaning.specs.Labels.{Label}
use Rattle.meaning.specs.Sets.{◌∈◌}
use Rattle.meaning.specs.Descriptions.{Pair, Rule, Operator, block, hide, rename, comm, allow, Term, act, tau, delta, ref, sum, cond, choice, ifelse}
use Rattle.meaning.specs.Descriptions.{seq, merge, lmerge, sync, wrap, Order, all, only, Description, names, term_count, equations}
use Rattle.meaning.specs.Legal.{Each}
use Rattle.grammar.specs.Text.{is_digit, is_lower}
use Rattle.grammar.specs.Forms.{lf, space, comma, greater}
use Rattle.grammar.specs.Marks.{decimal, joined_by, label_text}

-- A name by its word.
abbrev pub name_text : List Text → ℕ → Text
name_text words n = get_or words n []

-- LIST, PAIRS, RULES and LABELS
abbrev pub pair_text : List Text → Pair → Text
pair_text words p = name_text words p.left ++ (greater ∷ name_text words p.right)

abbrev pub rule_text : List Text → Rule → Text
rule_text words r = label_text words r.left ++ (greater ∷ name_text words r.right)

abbrev pub list_text : {A : Type 0} → (A → Text) → List A → Text
list_text entry xs = joined_by comma (map entry xs)

abbrev pub labels_text : List Text → List Label → Text
labels_text words [] = ascii "none"
labels_text words (a ∷ ls) = list_text (label_text words) (a ∷ ls)

-- The kinds, each part after a space.
abbrev pub after : Text → Text
after t = space ∷ t

abbrev pub with_list : ℕ → Text → Text
with_list t list = after (decimal t) ++ after list

abbrev pub two : ℕ → ℕ → Text
two t u = after (decimal t) ++ after (decimal u)

abbrev pub operator_text : List Text → Operator → ℕ → Text
operator_text words (block ns) t = ascii "block" ++ with_list t (list_text (name_text words) ns)
operator_text words (hide ns) t = ascii "hide" ++ with_list t (list_text (name_text words) ns)
operator_text words (rename ps) t = ascii "rename" ++ with_list t (list_text (pair_text words) ps)
operator_text words (comm rs) t = ascii "comm" ++ with_list t (list_text (rule_text words) rs)
operator_text words (allow ls) t = ascii "allow" ++ with_list t (labels_text words ls)

abbrev pub term_text : List Text → Term → Text
term_text words (act a) = ascii "act" ++ after (name_text words a)
term_text words tau = ascii "tau"
term_text words delta = ascii "delta"
term_text words (ref e) = ascii "ref" ++ after (decimal e)
term_text words (sum t) = ascii "sum" ++ after (decimal t)
term_text words (cond t) = ascii "cond" ++ after (decimal t)
term_text words (choice t u) = ascii "choice" ++ two t u
term_text words (ifelse t u) = ascii "ifelse" ++ two t u
term_text words (seq t u) = ascii "seq" ++ two t u
term_text words (merge t u) = ascii "merge" ++ two t u
term_text words (lmerge t u) = ascii "lmerge" ++ two t u
term_text words (sync t u) = ascii "sync" ++ two t u
term_text words (wrap o t) = operator_text words o t

abbrev pub order_text : List Text → Order → Text
order_text words all = ascii "all"
order_text words (only ls) = labels_text words ls

-- A line in front of those that follow it, and a line for each of a list.
abbrev pub line_before : Text → Text → Text
line_before l rest = l ++ (lf ∷ rest)

unfoldable pub each_line : {A : Type 0} → (A → Text) → List A → Text → Text
each_line w [] rest = rest
each_line w (x ∷ xs) rest = line_before (w x) (each_line w xs rest)

unfoldable pub written : Description → Order → Text
written d o =
    line_before (ascii "names=" ++ decimal (names d))
    (each_line (λ w. ascii "name=" ++ w) d.words
    (line_before (ascii "equations=" ++ decimal (equations d))
    (line_before (ascii "terms=" ++ decimal (term_count d))
    (each_line (λ t. ascii "term=" ++ term_text d.words t) d.terms
    (each_line (λ b. ascii "equation=" ++ decimal b) d.bodies
    (line_before (ascii "root=" ++ decimal d.root)
    (line_before (ascii "order=" ++ order_text d.words o) [])))))))

-- Legal words: each a lower-case letter, then up to 7 lower-case letters or digits; none of tau, none and all; no word twice.
abbrev pub in_name : ℕ → Bool
in_name b = is_lower b || is_digit b

abbrev pub NameForm : Text → Type 0
NameForm [] = ⊥
NameForm (b ∷ w) = T (is_lower b) × (length w ≤ 7) × Each (λ c. T (in_name c)) w

abbrev pub Unreserved : Text → Type 0
Unreserved w = (w ≡ ascii "tau" → ⊥) × (w ≡ ascii "none" → ⊥) × (w ≡ ascii "all" → ⊥)

abbrev pub Distinct : List Text → Type 0
Distinct [] = Unit {0}
Distinct (w ∷ ws) = (w ∈ ws → ⊥) × Distinct ws

abbrev pub LegalWords : List Text → Type 0
LegalWords ws = Each NameForm ws × Each Unreserved ws × Distinct ws
