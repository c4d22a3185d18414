-- P1 to P8, the examples that the order asks to be proved, as one table of cases that the checker computes over the definitions: each description is legal,
-- and its answer has the round count and the labels that the row gives. Two rows after P6 and those after P8 are no P: rules applied to parts of one label;
-- syncs of whole processes; an allow list and an order that list nothing both leave tau; and `order=all` widened to an order that names every label of one
-- name. Two more tables are for docs/EXACT.md.
-- Assumes nothing.
use mathlib.Core.Logic.Dec
use mathlib.Core.Bool.{Bool, true, false, ◌&&◌}
use mathlib.Core.List.{List, [], ◌∷◌, ◌++◌, flat_map}
use Prim.Native.Nat.{ℕ, zero, suc}
use native.Mathlib.Decide.{dec_le, dec_lt, ℕ_discrete}
use lib.Dec.{T, eqb}
use Rattle.meaning.specs.Bytes.{Text, ascii}
use Rattle.meaning.specs.Labels.{Label, size, number, is_tau, plus, inside, minus, clear, without, renamed_from, order}
use Rattle.meaning.specs.Sets.{member, insert, ascending, spread, product}
use Rattle.meaning.specs.Descriptions.{Pair, Rule, Operator, block, hide, rename, comm, allow, Term, act, tau, delta, ref, sum, cond, choice, ifelse, seq, merge, lmerge, sync}
use Rattle.meaning.specs.Descriptions.{wrap, Order, all, only, Description}
use Rattle.meaning.specs.Rounds.{target, allowed, communicated, actions_only, worked, next, round_sets}
use Rattle.meaning.specs.Limits.{total, some_long, some_over, over}
use Rattle.meaning.specs.Answers.{Outcome, too_large, listed, cut, same_labels, same_sets, answer_from, answer}
use Rattle.meaning.proofs.Legality.{legal?, legal_test}

pub record Case : Type 0 where
  pub given : Description
  pub order : Order
  pub rounds : ℕ
  pub labels : List Label

abbrev case : Description → Order → ℕ → List Label → Case
case d o rounds labels = record { given = d; order = o; rounds = rounds; labels = labels }

-- the names a to e of the short examples; a label over them
abbrev letters : List Text
letters = ascii "a" ∷ ascii "b" ∷ ascii "c" ∷ ascii "d" ∷ ascii "e" ∷ []

abbrev pub abcde : ℕ → ℕ → ℕ → ℕ → ℕ → Label
abcde a b c d e = a ∷ b ∷ c ∷ d ∷ e ∷ []

abbrev described : List Term → List ℕ → ℕ → Description
described terms bodies root = record { words = letters; terms = terms; bodies = bodies; root = root }

abbrev pair : ℕ → ℕ → Pair
pair a b = record { left = a; right = b }

abbrev rule : Label → ℕ → Rule
rule a n = record { left = a; right = n }

-- the listing: X = done . X, two of them merged, and two reports of done close the stripe
abbrev stripe : Description
stripe =
    record {
      words = ascii "done" ∷ ascii "close" ∷ [];
      terms = act 0 ∷ ref 0 ∷ seq 0 1 ∷ merge 1 1 ∷ wrap (comm (rule (2 ∷ 0 ∷ []) 1 ∷ [])) 3 ∷ [];
      bodies = 2 ∷ [];
      root = 4;
    }

-- P4: X = a then (X with a renamed to b). P5: a:2.b:1 with a and b exchanged.
abbrev later : Description
later = described (act 0 ∷ ref 0 ∷ wrap (rename (pair 0 1 ∷ [])) 1 ∷ seq 0 2 ∷ []) (3 ∷ []) 3

abbrev exchanged : Description
exchanged = described (act 0 ∷ sync 0 0 ∷ act 1 ∷ sync 1 2 ∷ wrap (rename (pair 0 1 ∷ pair 1 0 ∷ [])) 3 ∷ []) [] 4

-- P6: the second rule asks for a c, and the only c is a result of the first. After P6: a:2>a on a:4, which gives a:2 by two
-- applications and never a:1; and a:2>b,b:2>c on a:2.b:2, where both rules apply since each has a part of its own.
abbrev pub chained : List Rule
chained = rule (abcde 1 1 0 0 0) 2 ∷ rule (abcde 0 0 1 1 0) 4 ∷ []

abbrev finished : Description
finished = described (act 0 ∷ act 1 ∷ sync 0 1 ∷ act 3 ∷ sync 2 3 ∷ wrap (comm chained) 4 ∷ []) [] 5

abbrev halved : Description
halved = described (act 0 ∷ sync 0 0 ∷ sync 1 1 ∷ wrap (comm (rule (abcde 2 0 0 0 0) 0 ∷ [])) 2 ∷ []) [] 3

abbrev apart : Description
apart =
    described
    (act 0 ∷ act 1 ∷ sync 0 0 ∷ sync 1 1 ∷ sync 2 3 ∷ wrap (comm (rule (abcde 2 0 0 0 0) 1 ∷ rule (abcde 0 2 0 0 0) 2 ∷ [])) 4 ∷ []) [] 5

-- P7: a hidden in a:2. P8: sync of a and tau. Last: P7 under an allow list.
abbrev hidden : Description
hidden = described (act 0 ∷ sync 0 0 ∷ wrap (hide (0 ∷ [])) 1 ∷ []) [] 2

abbrev synced : Description
synced = described (act 0 ∷ tau ∷ sync 0 1 ∷ []) [] 2

-- Of sync: a deadlock beside an action lets nothing happen, and a sum of one makes the sync one of whole processes. Two sequences,
-- which run on by themselves after their joint first step. A sync of which one operand is a sync of whole processes is one itself.
abbrev stuck : Description
stuck = described (act 0 ∷ delta ∷ sync 0 1 ∷ []) [] 2

abbrev opened : Description
opened = described (act 0 ∷ delta ∷ sum 1 ∷ sync 0 2 ∷ []) [] 3

abbrev sequences : Description
sequences = described (act 0 ∷ act 1 ∷ seq 0 1 ∷ act 2 ∷ act 3 ∷ seq 3 4 ∷ sync 2 5 ∷ []) [] 6

abbrev nested : Description
nested = described (act 0 ∷ sum 0 ∷ sync 0 1 ∷ sync 2 0 ∷ []) [] 3

abbrev allowed_tau : Description
allowed_tau = described (act 0 ∷ sync 0 0 ∷ wrap (hide (0 ∷ [])) 1 ∷ wrap (allow []) 2 ∷ []) [] 3

-- one name, an order of all its labels up to so many actions
abbrev pub single : Description
single = record { words = ascii "a" ∷ []; terms = act 0 ∷ []; bodies = []; root = 0 }

unfoldable pub up_to : ℕ → List Label
up_to zero = []
up_to (suc n) = up_to n ++ ((suc n ∷ []) ∷ [])

abbrev pub table : List Case
table =
    case stripe all 2 ((1 ∷ 0 ∷ []) ∷ (2 ∷ 0 ∷ []) ∷ (0 ∷ 1 ∷ []) ∷ [])
    ∷ case stripe (only ((0 ∷ 1 ∷ []) ∷ [])) 2 ((0 ∷ 1 ∷ []) ∷ [])
    ∷ case stripe (only []) 2 []
    ∷ case (described (ref 0 ∷ []) (0 ∷ []) 0) all 1 []
    ∷ case later all 3 (abcde 1 0 0 0 0 ∷ abcde 0 1 0 0 0 ∷ [])
    ∷ case exchanged all 1 (abcde 1 2 0 0 0 ∷ [])
    ∷ case finished all 1 (abcde 1 1 0 1 0 ∷ abcde 0 0 1 1 0 ∷ [])
    ∷ case halved all 1 (abcde 2 0 0 0 0 ∷ abcde 3 0 0 0 0 ∷ abcde 4 0 0 0 0 ∷ [])
    ∷ case apart all 1 (abcde 2 2 0 0 0 ∷ abcde 0 3 0 0 0 ∷ abcde 2 0 1 0 0 ∷ abcde 0 1 1 0 0 ∷ [])
    ∷ case hidden all 1 (abcde 0 0 0 0 0 ∷ [])
    ∷ case synced all 1 (abcde 1 0 0 0 0 ∷ [])
    ∷ case stuck all 1 []
    ∷ case opened all 1 (abcde 1 0 0 0 0 ∷ [])
    ∷ case sequences all 1 (abcde 1 0 0 0 0 ∷ abcde 0 1 0 0 0 ∷ abcde 0 0 1 0 0 ∷ abcde 1 0 1 0 0 ∷ abcde 0 1 1 0 0
    ∷ abcde 0 0 0 1 0 ∷ abcde 1 0 0 1 0 ∷ abcde 0 1 0 1 0 ∷ [])
    ∷ case nested all 1 (abcde 1 0 0 0 0 ∷ abcde 2 0 0 0 0 ∷ abcde 3 0 0 0 0 ∷ [])
    ∷ case allowed_tau (only []) 1 (abcde 0 0 0 0 0 ∷ [])
    ∷ case single all 1 ((1 ∷ []) ∷ [])
    ∷ case single (only (up_to 31)) 1 ((1 ∷ []) ∷ [])
    ∷ []

-- Of each kind that is not among the exact ones a description in which one term alone is of it (docs/EXACT.md); what of their lists
-- is on no run is shown in Unseen.antt. The texts are in examples/, as `unseen-` and the kind.
abbrev case_over : List Text → List Term → List ℕ → ℕ → ℕ → List Label → Case
case_over words terms bodies root = case (record { words = words; terms = terms; bodies = bodies; root = root }) all

-- delta: a die that hangs does nothing, and what should follow it never starts.
abbrev pub hangs : Case
hangs = case_over (ascii "done" ∷ []) (delta ∷ act 0 ∷ seq 0 1 ∷ []) [] 2 1 ((1 ∷ []) ∷ [])

-- ref: a die that reports busy for ever never comes to what should follow.
abbrev pub busy_for_ever : Case
busy_for_ever =
    case_over (ascii "busy" ∷ ascii "done" ∷ []) (act 0 ∷ ref 0 ∷ seq 0 1 ∷ act 1 ∷ seq 1 3 ∷ []) (2 ∷ []) 4 2
    ((1 ∷ 0 ∷ []) ∷ (0 ∷ 1 ∷ []) ∷ [])

-- block and allow: the start is cut, and so all that comes after it.
abbrev pub start_cut : Operator → Case
start_cut o = case_over (ascii "start" ∷ ascii "done" ∷ []) (act 0 ∷ act 1 ∷ seq 0 1 ∷ wrap o 2 ∷ []) [] 3 1 ((0 ∷ 1 ∷ []) ∷ [])

abbrev pub start_blocked : Case
start_blocked = start_cut (block (0 ∷ []))

abbrev pub start_not_allowed : Case
start_not_allowed = start_cut (allow ((0 ∷ 1 ∷ []) ∷ []))

-- sync: the start comes in step with the timer, and never alone.
abbrev pub start_in_step : Case
start_in_step =
    case_over (ascii "start" ∷ ascii "done" ∷ ascii "arm" ∷ []) (act 0 ∷ act 1 ∷ seq 0 1 ∷ act 2 ∷ sync 2 3 ∷ []) [] 4 1
    ((1 ∷ 0 ∷ 0 ∷ []) ∷ (0 ∷ 1 ∷ 0 ∷ []) ∷ (0 ∷ 0 ∷ 1 ∷ []) ∷ (1 ∷ 0 ∷ 1 ∷ []) ∷ (0 ∷ 1 ∷ 1 ∷ []) ∷ [])

-- lmerge: the start comes first, and the timer after it.
abbrev pub start_first : Case
start_first =
    case_over (ascii "start" ∷ ascii "arm" ∷ []) (act 0 ∷ act 1 ∷ lmerge 0 1 ∷ []) [] 2 1 ((1 ∷ 0 ∷ []) ∷ (0 ∷ 1 ∷ []) ∷ (1 ∷ 1 ∷ []) ∷ [])

abbrev pub unseen_cases : List Case
unseen_cases = hangs ∷ busy_for_ever ∷ start_blocked ∷ start_not_allowed ∷ start_in_step ∷ start_first ∷ []

-- And two in which every term is of the exact kinds: sixteen dies that report once, of which fifteen close the stripe; and two dies
-- described with each of the eleven kinds. The texts are in examples/, as `exact-stripe-15-of-16` and `exact-two-dies`.
unfoldable pub reports : ℕ → List Label
reports zero = []
reports (suc n) = reports n ++ ((suc n ∷ 0 ∷ []) ∷ [])

abbrev pub fifteen_of_sixteen : Case
fifteen_of_sixteen =
    case_over (ascii "done" ∷ ascii "close" ∷ [])
    (act 0 ∷ merge 0 0 ∷ merge 1 1 ∷ merge 2 2 ∷ merge 3 3 ∷ wrap (comm (rule (15 ∷ 0 ∷ []) 1 ∷ [])) 4 ∷ []) [] 5 1
    (reports 16 ++ ((0 ∷ 1 ∷ []) ∷ (1 ∷ 1 ∷ []) ∷ []))

abbrev pub two_dies : Case
two_dies =
    case_over (ascii "start" ∷ ascii "done" ∷ ascii "busy" ∷ ascii "retry" ∷ ascii "close" ∷ [])
    (act 0 ∷ act 1 ∷ act 2 ∷ tau ∷ seq 2 3 ∷ choice 1 4 ∷ seq 0 5 ∷ sum 6 ∷ wrap (rename (pair 2 3 ∷ [])) 7 ∷ merge 7 8
    ∷ wrap (comm (rule (abcde 0 2 0 0 0) 4 ∷ [])) 9 ∷ wrap (hide (0 ∷ [])) 10 ∷ act 4 ∷ ifelse 11 12 ∷ cond 13 ∷ []) [] 14 1
    (abcde 0 0 0 0 0 ∷ abcde 0 1 0 0 0 ∷ abcde 0 2 0 0 0 ∷ abcde 0 0 1 0 0 ∷ abcde 0 1 1 0 0 ∷ abcde 0 0 0 1 0 ∷ abcde 0 1 0 1 0
    ∷ abcde 0 0 1 1 0 ∷ abcde 0 0 0 0 1 ∷ [])

abbrev pub exact_cases : List Case
exact_cases = fifteen_of_sixteen ∷ two_dies ∷ []

unfoldable pub says : ℕ → List Label → Outcome → Bool
says rounds labels too_large = false
says rounds labels (listed r ls) = eqb r rounds && same_labels ls labels

unfoldable pub holds : Case → Bool
holds c = legal_test c.given c.order && says c.rounds c.labels (answer c.given c.order)

unfoldable pub all_hold : List Case → Bool
all_hold [] = true
all_hold (c ∷ cs) = holds c && all_hold cs

pub computed : T (all_hold table) × T (all_hold unseen_cases) × T (all_hold exact_cases)
unfolding reports all_hold holds says up_to legal_test legal? dec_le dec_lt ℕ_discrete Dec.and
    answer answer_from cut same_labels same_sets over total some_over some_long round_sets next worked actions_only
    communicated flat_map allowed target product spread ascending insert member order
    renamed_from without clear minus inside plus is_tau number size
computed = (tt, tt, tt)
