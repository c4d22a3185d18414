-- The listing of README.md and the listing with a sync of a merge and a reference, which read as the descriptions themselves, and
-- texts for each refusal number and for the column of a fault, as tables of cases that the checker computes.
-- Assumes nothing.
use mathlib.Core.Path.{◌≡◌, refl, subst⁻¹}
use mathlib.Core.Logic.{inl, inr}
use mathlib.Core.List.{List, [], ◌∷◌, ◌++◌}
use Prim.Native.String.{String}
use Prim.Native.Nat.{ℕ}
use lib.ListN.{replicate}
use Rattle.meaning.specs.Bytes.{Text, ascii}
use Rattle.meaning.specs.Labels as L
use Rattle.meaning.specs.Sets.{◌∈◌}
use Rattle.meaning.specs.Descriptions.{Term, Description, act, ref, seq, merge, sync, comm, wrap, all}
use Rattle.meaning.specs.Answers.{Fault, form, name, range, amount}
use Rattle.meaning.proofs.Alphabets as M
use Rattle.meaning.proofs.Alphabets.{hangs, busy_for_ever, start_blocked, start_not_allowed, start_in_step, start_first, fifteen_of_sixteen, two_dies}
use Rattle.grammar.specs.Text.{same_text, literal, is_rest, is_digit, is_lower, second_digit, number, word_on, word, separated_on}
use Rattle.grammar.specs.Forms.{part, pair, rule, label_list, alone, of_name, of_last, of_two, of_list, kinds, of_kind, count_line, name_line, term_line, order_line}
use Rattle.grammar.specs.Faults.{items_from, items_fault, name_number, name_fault, label_said, actions, label_fault, words_fault}
use Rattle.grammar.specs.Faults.{pairs_fault, rules_fault, labels_fault, words_of_fault, term_fault, order_fault}
use Rattle.grammar.specs.Reading.{Reading, read, overlong, bad_line, take_number, is_free, take_name, take_term}
use Rattle.grammar.specs.Reading.{take_body, take_order, lines, whole_text, read_text}

-- lines, each ended by LF
abbrev pub text : List String → Text
text [] = []
text (l ∷ ls) = ascii l ++ (10 ∷ text ls)

abbrev pub listing : List String
listing =
    "names=2" ∷ "name=done" ∷ "name=close" ∷ "equations=1" ∷ "terms=5" ∷ "term=act done" ∷ "term=ref 0" ∷ "term=seq 0 1" ∷ "term=merge 1 1"
    ∷ "term=comm 3 done:2>close" ∷ "equation=2" ∷ "root=4" ∷ "order=all" ∷ []

-- the listing with another line for its tenth
abbrev tenth : String → List String
tenth l =
    "names=2" ∷ "name=done" ∷ "name=close" ∷ "equations=1" ∷ "terms=5" ∷ "term=act done" ∷ "term=ref 0" ∷ "term=seq 0 1" ∷ "term=merge 1 1" ∷ l
    ∷ "equation=2" ∷ "root=4" ∷ "order=all" ∷ []

-- what the listing describes, by the term of its tenth line
abbrev stripe : Term → Description
stripe t =
    record {
      words = ascii "done" ∷ ascii "close" ∷ [];
      terms = act 0 ∷ ref 0 ∷ seq 0 1 ∷ merge 1 1 ∷ t ∷ [];
      bodies = 2 ∷ [];
      root = 4;
    }

-- Texts of examples/ that docs/EXACT.md speaks of: those named `unseen-` and a kind, then the two of the exact kinds.
abbrev unseen_delta : List String
unseen_delta = "names=1" ∷ "name=done" ∷ "equations=0" ∷ "terms=3" ∷ "term=delta" ∷ "term=act done" ∷ "term=seq 0 1" ∷ "root=2" ∷ "order=all" ∷ []

abbrev unseen_ref : List String
unseen_ref =
    "names=2" ∷ "name=busy" ∷ "name=done" ∷ "equations=1" ∷ "terms=5" ∷ "term=act busy" ∷ "term=ref 0" ∷ "term=seq 0 1" ∷ "term=act done"
    ∷ "term=seq 1 3" ∷ "equation=2" ∷ "root=4" ∷ "order=all" ∷ []

abbrev unseen_block : List String
unseen_block =
    "names=2" ∷ "name=start" ∷ "name=done" ∷ "equations=0" ∷ "terms=4" ∷ "term=act start" ∷ "term=act done" ∷ "term=seq 0 1"
    ∷ "term=block 2 start" ∷ "root=3" ∷ "order=all" ∷ []

abbrev unseen_allow : List String
unseen_allow =
    "names=2" ∷ "name=start" ∷ "name=done" ∷ "equations=0" ∷ "terms=4" ∷ "term=act start" ∷ "term=act done" ∷ "term=seq 0 1"
    ∷ "term=allow 2 done:1" ∷ "root=3" ∷ "order=all" ∷ []

abbrev unseen_sync : List String
unseen_sync =
    "names=3" ∷ "name=start" ∷ "name=done" ∷ "name=arm" ∷ "equations=0" ∷ "terms=5" ∷ "term=act start" ∷ "term=act done" ∷ "term=seq 0 1"
    ∷ "term=act arm" ∷ "term=sync 2 3" ∷ "root=4" ∷ "order=all" ∷ []

abbrev unseen_lmerge : List String
unseen_lmerge =
    "names=2" ∷ "name=start" ∷ "name=arm" ∷ "equations=0" ∷ "terms=3" ∷ "term=act start" ∷ "term=act arm" ∷ "term=lmerge 0 1" ∷ "root=2"
    ∷ "order=all" ∷ []

abbrev exact_stripe : List String
exact_stripe =
    "names=2" ∷ "name=done" ∷ "name=close" ∷ "equations=0" ∷ "terms=6" ∷ "term=act done" ∷ "term=merge 0 0" ∷ "term=merge 1 1"
    ∷ "term=merge 2 2" ∷ "term=merge 3 3" ∷ "term=comm 4 done:15>close" ∷ "root=5" ∷ "order=all" ∷ []

abbrev exact_two_dies : List String
exact_two_dies =
    "names=5" ∷ "name=start" ∷ "name=done" ∷ "name=busy" ∷ "name=retry" ∷ "name=close" ∷ "equations=0" ∷ "terms=15" ∷ "term=act start"
    ∷ "term=act done" ∷ "term=act busy" ∷ "term=tau" ∷ "term=seq 2 3" ∷ "term=choice 1 4" ∷ "term=seq 0 5" ∷ "term=sum 6"
    ∷ "term=rename 7 busy>retry" ∷ "term=merge 7 8" ∷ "term=comm 9 done:2>close" ∷ "term=hide 10 start" ∷ "term=act close"
    ∷ "term=ifelse 11 12" ∷ "term=cond 13" ∷ "root=14" ∷ "order=all" ∷ []

-- A text with its reading.
pub record Case : Type 0 where
  pub given : Text
  pub reading : Reading

abbrev case : List String → Reading → Case
case t r = record { given = text t; reading = r }

abbrev bad : Fault → (line column : ℕ) → Reading
bad f line column = bad_line (record { fault = f; column = column }) line

-- 8,192 bytes are read, and have no line; one more is too long. A line that lacks its LF has no form, whatever its name.
abbrev pub table : List Case
table =
    case listing (read (stripe (wrap (comm (record { left = 2 ∷ 0 ∷ []; right = 1 } ∷ [])) 3)) all)
    ∷ case (tenth "term=sync 3 1") (read (stripe (sync 3 1)) all)
    ∷ record { given = replicate 8193 10; reading = overlong }
    ∷ record { given = replicate 8192 10; reading = bad form 1 1 }
    ∷ case [] (bad form 1 1)
    ∷ case ("names=1" ∷ "name=tau" ∷ []) (bad name 2 6)
    ∷ record { given = text ("names=1" ∷ []) ++ ascii "name=tau"; reading = bad form 2 9 }
    ∷ case (tenth "term=comm 3 done:2>close,") (bad form 10 26)
    ∷ case (tenth "term=comm 3 done:02>close") (bad form 10 19)
    ∷ case (tenth "term=block 99 zz") (bad name 10 15)
    ∷ case (tenth "term=sync 1 99") (bad range 10 13)
    ∷ case (tenth "term=comm 3 done:1>close") (bad amount 10 13)
    ∷ case (tenth "term=block 3 done,done") (bad amount 10 19)
    ∷ case (listing ++ ("x" ∷ [])) (bad form 14 1)
    ∷ []

-- Columns. A line where the first term is due, and one where the order is, in texts with the names a and b.
abbrev as_term : String → Fault → ℕ → Case
as_term l f column = case ("names=2" ∷ "name=a" ∷ "name=b" ∷ "equations=0" ∷ "terms=1" ∷ l ∷ []) (bad f 6 column)

abbrev as_order : String → Fault → ℕ → Case
as_order l f column =
    case ("names=2" ∷ "name=a" ∷ "name=b" ∷ "equations=0" ∷ "terms=1" ∷ "term=tau" ∷ "root=0" ∷ l ∷ []) (bad f 8 column)

-- What has no form is faulted at the byte with which no line due there goes on; any other fault where that begins which has it.
abbrev pub columns : List Case
columns =
    case ("names=25 " ∷ []) (bad form 1 9)
    ∷ case ("names=25" ∷ []) (bad form 1 7)
    ∷ record { given = ascii "names=25"; reading = bad form 1 9 }
    ∷ as_term "terms=" form 5
    ∷ as_term "term=foo 0" form 6
    ∷ as_term "term=sux" form 8
    ∷ as_term "term=all 0" form 9
    ∷ as_term "term=allow 0 all" form 17
    ∷ as_term "term=sum 00" form 11
    ∷ as_term "term=sum 100" form 12
    ∷ as_term "term=comm 0 a>b" form 14
    ∷ as_term "term=block 0 zz:1" form 16
    ∷ as_term "term=block 0 yy,zz" name 14
    ∷ as_term "term=sync 98 99" range 11
    ∷ as_order "order=tau" form 10
    ∷ as_order "order=alll" form 11
    ∷ as_order "order=all,a:1" form 10
    ∷ as_order "order=none,a:1" form 11
    ∷ as_order "order=a:1,b:1,a:1" amount 15
    ∷ []

abbrev read_as : List String → M.Case → Case
read_as t c = case t (read c.given c.order)

abbrev pub unseen_texts : List Case
unseen_texts =
    read_as unseen_delta hangs
    ∷ read_as unseen_ref busy_for_ever
    ∷ read_as unseen_block start_blocked
    ∷ read_as unseen_allow start_not_allowed
    ∷ read_as unseen_sync start_in_step
    ∷ read_as unseen_lmerge start_first
    ∷ []

abbrev pub exact_texts : List Case
exact_texts = read_as exact_stripe fifteen_of_sixteen ∷ read_as exact_two_dies two_dies ∷ []

abbrev Holds : Case → Type 0
Holds c = read_text c.given ≡ c.reading

abbrev All : List Case → Type 0
All [] = Unit {0}
All (c ∷ cs) = Holds c × All cs

computed : All table × All columns × All unseen_texts × All exact_texts
unfolding L.plus L.number same_text literal is_rest is_digit is_lower second_digit number word_on word separated_on
    part pair rule label_list alone of_name of_last of_two of_list kinds of_kind count_line name_line term_line order_line
    items_from items_fault name_number name_fault label_said actions label_fault words_fault pairs_fault rules_fault labels_fault words_of_fault
    term_fault order_fault
    take_number is_free take_name take_term take_body take_order lines whole_text read_text
computed = (
  (refl, (refl, (refl, (refl, (refl, (refl, (refl, (refl, (refl, (refl, (refl, (refl, (refl, (refl, tt)))))))))))))),
  (refl, (refl, (refl, (refl, (refl, (refl, (refl, (refl, (refl, (refl, (refl, (refl, (refl, (refl, (refl, (refl, (refl, (refl, (refl, tt))))))))))))))))))),
  (refl, (refl, (refl, (refl, (refl, (refl, tt)))))),
  (refl, (refl, tt)),
)

each : (cs : List Case) → All cs → (c : Case) → c ∈ cs → Holds c
each [] h c x'' = elim x'' [ ]
each (b ∷ cs) h c (inl e) = subst⁻¹ Holds e h.0
each (b ∷ cs) h c (inr m) = each cs h.1 c m

pub cases : (c : Case) → c ∈ table → read_text c.given ≡ c.reading
cases = each table computed.0

pub column-cases : (c : Case) → c ∈ columns → read_text c.given ≡ c.reading
column-cases = each columns computed.1

pub unseen-texts : (c : Case) → c ∈ unseen_texts → read_text c.given ≡ c.reading
unseen-texts = each unseen_texts computed.2

pub exact-texts : (c : Case) → c ∈ exact_texts → read_text c.given ≡ c.reading
exact-texts = each exact_texts computed.3
