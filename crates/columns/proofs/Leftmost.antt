-- The fault that is told of a line has the smallest number of all faults of the line, and of these it is the leftmost.
-- Assumes nothing.
use mathlib.Core.Path.{◌≡◌, refl, sym, subst}
use mathlib.Core.List.{List, [], ◌∷◌}
use Prim.Native.Nat.{ℕ, ◌≤◌}
use native.Mathlib.Omega.{arith}
use lib.ListN.{length}
use Rattle.meaning.specs.Bytes.{Text, ascii}
use Rattle.meaning.specs.Descriptions.{Term, act, tau, delta, ref, sum, cond, choice, ifelse, seq, merge, lmerge, sync, wrap}
use Rattle.meaning.specs.Answers.{range}
use Rattle.grammar.specs.Text.{Past, past, stuck, onward, literal, byte, ended, is_rest, number}
use Rattle.grammar.specs.Forms.{space, Listed, Places, Line, OrderLine, all, word_list, pair_list, rule_list, label_list, alone, of_name, operand, of_last}
use Rattle.grammar.specs.Forms.{of_one, of_two, of_list, Kind, kinds, farther, of_kind, term_line, order_line}
use Rattle.grammar.specs.Faults.{Found, fine, fault, worse, list_fault, number_fault, range_fault, both_fault, words_of_fault, name_fault}
use Rattle.grammar.specs.Faults.{term_fault, order_fault}
use Rattle.grammar.proofs.Onwards.{When, when-past, when-stuck, when-weaken, when-branch, onward→, literal→}
use Rattle.columns.specs.Leftmost.{Decides, entries_faults, number_faults, both_faults, numbers_faults, name_faults, term_faults, order_faults}
use Rattle.columns.proofs.Alternatives.{◌and◌}
use Rattle.columns.proofs.Inside.{number-inside}
use Rattle.columns.proofs.Deciding.{told_wider, told-worse, told-unless-lt}
use Rattle.columns.proofs.Placing.{over-shorter, sign-shorter, placed→, places, places-fall, name-told, InList}
use Rattle.columns.proofs.Placing.{words-told, pairs-told, rules-told, labels-told}

-- Whatever was read first.
after : {A B : Type 0} (m : Past A) {f : A → Text → Past B} {Q : B → Text → Type 0} → ((a : A) (r : Text) → When (f a r) Q) → When (onward m f) Q
after (past a r) k = k a r
after (stuck r) k = when-stuck

-- The numbers of a term.
both-decides : (bound t u : ℕ) (at : Places) → at.second ≤ at.first → Decides (both_faults bound t u at) (both_fault bound t u at)
both-decides bound t u at l =
    (told-worse _ _ {upper = places at.first 0 0}
    (told_wider (λ x. omega arith) (places-fall l (omega arith) (omega arith)) (told-unless-lt (places at.first 0 0) range t bound))
    (told-unless-lt (places at.second 0 0) range u bound)
    ).decides

one-decides : (bound t from : ℕ) → Decides (number_faults bound t from) (number_fault bound t from)
one-decides bound t from = (told-unless-lt (places from 0 0) range t bound).decides

numbers-decide : (equations n : ℕ) (t : Term) (at : Places) → at.second ≤ at.first
    → Decides (numbers_faults equations n t at) (range_fault equations n t at)
numbers-decide equations n (act a) at l = λ y q h. h
numbers-decide equations n tau at l = λ y q h. h
numbers-decide equations n delta at l = λ y q h. h
numbers-decide equations n (ref e) at l = one-decides equations e at.first
numbers-decide equations n (sum t) at l = one-decides n t at.first
numbers-decide equations n (cond t) at l = one-decides n t at.first
numbers-decide equations n (choice t u) at l = both-decides n t u at l
numbers-decide equations n (ifelse t u) at l = both-decides n t u at l
numbers-decide equations n (seq t u) at l = both-decides n t u at l
numbers-decide equations n (merge t u) at l = both-decides n t u at l
numbers-decide equations n (lmerge t u) at l = both-decides n t u at l
numbers-decide equations n (sync t u) at l = both-decides n t u at l
numbers-decide equations n (wrap o t) at l = one-decides n t at.first

operand-placed : (s : Text) → When (operand s) (λ t q. (length q ≤ t.from) × (t.from ≤ length s))
operand-placed s =
    onward→ (literal→ (space ∷ []) s) (λ _ r e. placed→ number r (when-weaken (number-inside r) (λ n q o. (over-shorter o, sign-shorter e))))

worse-fine : (f : Found) → worse f fine ≡ f
worse-fine fine = refl
worse-fine (fault x p) = refl

-- The line of a term, whatever its kind.
module _ (words : List Text) (equations n : ℕ) where
  abbrev Settles : Past Line → Type 0
  Settles m = When m (λ l r. Decides (term_faults words equations n l) (term_fault words equations n l))

  alone-settles : (t : Term) (s : Text) → Settles (alone t s)
  unfolding alone term_fault words_of_fault
  alone-settles t s = after (ended s) (λ _ r. when-past (numbers-decide equations n t _ (omega arith)))

  name-settles : (s : Text) → Settles (of_name s)
  unfolding of_name term_fault words_of_fault
  name-settles s =
      after (byte space s) (λ _ r. onward→ (name-told words 0 0 r) (λ w q h. after (ended q) (λ _ p.
      when-past (subst (Decides (name_faults words w)) (sym (worse-fine (name_fault words w))) h.decides))))

  last-settles : (make : ℕ → Term) (at : ℕ → Places) (s : Text) → ((from : ℕ) → from ≤ length s → (at from).second ≤ (at from).first)
      → Settles (of_last make at s)
  unfolding of_last term_fault words_of_fault
  last-settles make at s h =
      onward→ (operand-placed s) (λ t q l. after (ended q) (λ _ p.
      when-past (numbers-decide equations n (make t.it) (at t.from) (h t.from l.1))))

  one-settles : (make : ℕ → Term) (s : Text) → Settles (of_one make s)
  one-settles make s = last-settles make _ s (λ from l. omega arith)

  two-settles : (make : ℕ → ℕ → Term) (s : Text) → Settles (of_two make s)
  unfolding of_two
  two-settles make s = onward→ (operand-placed s) (λ t q l. last-settles (make t.it) _ q (λ from k. omega arith))

  list-settles : {A : Type 0} (list : Text → Past A) (make : A → Listed)
      → ((r : ℕ) (s : Text) → When (list s) (λ l q. InList words r s (entries_faults words (make l)) (list_fault words (make l))))
      → (s : Text) → Settles (of_list list make s)
  unfolding of_list term_fault words_of_fault
  list-settles list make k s =
      after (operand s) (λ t q. after (byte space q) (λ _ p. onward→ (k t.from p) (λ l o h. after (ended o) (λ _ i.
      when-past (told-worse _ _ h (told-unless-lt (places t.from 0 0) range t.it n)).decides))))

  abbrev AllSettle : List Kind → Type 0
  AllSettle [] = Unit {0}
  AllSettle (k ∷ ks) = ((s : Text) → Settles (k.rest s)) × AllSettle ks

  farther-settles : (r : Text) (m : Past Line) → Settles m → Settles (farther r m)
  farther-settles r (past l q) h = h
  farther-settles r (stuck q) h = when-stuck

  kinds-settle : (ks : List Kind) → AllSettle ks → (s : Text) → Settles (of_kind ks s)
  unfolding of_kind
  kinds-settle [] h s = when-stuck
  kinds-settle (k ∷ ks) h s = by (literal k.word s) (kinds-settle ks h.1 s)
    where
      by : (m : Past (Unit {0})) → Settles (of_kind ks s)
          → Settles (elim m as (λ _. Past Line) [ past _ r ↦ k.rest r | stuck r ↦ farther r (of_kind ks s) ])
      by (past a r) i = h.0 r
      by (stuck r) i = farther-settles r (of_kind ks s) i

  rests-settle : AllSettle kinds
  unfolding kinds
  rests-settle =
      alone-settles _ and alone-settles _ and name-settles
      and one-settles _ and one-settles _ and one-settles _
      and two-settles _ and two-settles _ and two-settles _
      and two-settles _ and two-settles _ and two-settles _
      and list-settles word_list _ (words-told words) and list-settles word_list _ (words-told words)
      and list-settles pair_list _ (pairs-told words) and list-settles rule_list _ (rules-told words)
      and list-settles label_list _ (labels-told words) and tt

  term-settles : (s : Text) → Settles (term_line s)
  unfolding term_line
  term-settles s = after (literal (ascii "term=") s) (λ _ r. kinds-settle kinds rests-settle r)

order-settles : (words : List Text) (s : Text) → When (order_line s) (λ l r. Decides (order_faults words l) (order_fault words l))
unfolding order_line order_fault
order-settles words s =
    after (literal (ascii "order=") s) (λ _ r. when-branch (is_rest (ascii "all") r)
    (λ _. when-past {a = all} (λ y q h. h))
    (λ _. onward→ (labels-told words 0 r) (λ ls q h. after (ended q) (λ _ p. when-past h.decides))))

-- The theorems.
pub term-leftmost : (words : List Text) (equations n : ℕ) (s r : Text) (l : Line) → term_line s ≡ past l r
    → Decides (term_faults words equations n l) (term_fault words equations n l)
term-leftmost words equations n s r l e = (term-settles words equations n s).holds l r e

pub order-leftmost : (words : List Text) (s r : Text) (l : OrderLine) → order_line s ≡ past l r
    → Decides (order_faults words l) (order_fault words l)
order-leftmost words s r l e = (order-settles words s).holds l r e
