-- All faults that a line of right form has, none joined with another, and which of them decides: of the smallest number the leftmost.
-- Assumes nothing.
use Rattle.std.specs.Prelude.{◌≡◌, ◌⊎◌, List, [], ◌∷◌, ◌++◌, ℕ, ◌+◌, ◌≤◌, ◌<◌, length}
use Rattle.meaning.specs.Bytes.{Text}
use Rattle.meaning.specs.Descriptions.{Term, act, tau, delta, ref, sum, cond, choice, ifelse, seq, merge, lmerge, sync, wrap}
use Rattle.meaning.specs.Answers.{Fault, name, range, amount, fault_number}
use Rattle.grammar.specs.Text.{Placed}
use Rattle.grammar.specs.Forms.{Part, Parts, WordPair, WordRule, Listed, block, hide, rename, comm, allow, Places, Line, plain, acts, wraps}
use Rattle.grammar.specs.Forms.{OrderLine, all, only}
use Rattle.grammar.specs.Faults.{Found, fine, fault, Item, name_number, actions, part_item, name_item, pair_item, rule_item, label_item}

-- Which faults there are, and where each begins. A place is how many bytes of the text are left there, so that further left is more.
abbrev pub Faults : Type 1
Faults = Fault → (from : ℕ) → Type 0

-- The smallest number decides first, then its leftmost place.
abbrev pub Leads : (x : Fault) (p : ℕ) (y : Fault) (q : ℕ) → Type 0
Leads x p y q = (fault_number x < fault_number y) ⊎ ((x ≡ y) × (q ≤ p))

-- What is found is one of the faults, and leads all of them; or there are none.
abbrev pub Decides : Faults → Found → Type 0
Decides faults fine = (y : Fault) (q : ℕ) → faults y q → ⊥
Decides faults (fault x p) = faults x p × ((y : Fault) (q : ℕ) → faults y q → Leads x p y q)

-- None; those of one and those of another; and a single one, where something is the case.
abbrev pub none : Faults
none x p = ⊥

infixr 40 ◌or◌
abbrev pub ◌or◌ : Faults → Faults → Faults
◌or◌ some more x p = some x p ⊎ more x p

pub data FaultIf (P : Type 0) (x : Fault) (from : ℕ) : Fault → ℕ → Type 0 where
  indeed : P → FaultIf P x from x from

-- The entries of a list, and the parts of a label: each has faults of its own, and a number, a weight and a place by its item. It is also at fault
-- where its number is not above that of the entry just before it, and where with it there is more than the limit.
abbrev pub weights : {A : Type 0} → (A → Item) → List A → ℕ
weights item [] = 0
weights item (a ∷ as') = (item a).weight + weights item as'

abbrev pub out_of_order : {A : Type 0} → (A → Item) → (before : List A) → A → Faults
out_of_order {A} item before a x p =
    (earlier : List A) × (b : A) × (before ≡ earlier ++ (b ∷ [])) × FaultIf ((item a).key ≤ (item b).key) amount (item a).from x p

abbrev pub entry_faults : {A : Type 0} → (A → Faults) → (A → Item) → (limit : ℕ) → (before : List A) → A → Faults
entry_faults own item limit before a =
    own a
    or out_of_order item before a
    or FaultIf (limit < weights item before + (item a).weight) amount (item a).from

abbrev pub list_faults : {A : Type 0} → (A → Faults) → (A → Item) → (limit : ℕ) → List A → Faults
list_faults {A} own item limit as' x p =
    (before : List A) × (a : A) × (after : List A) × (as' ≡ before ++ (a ∷ after)) × entry_faults own item limit before a x p

-- A name that is unknown; a part of a label, and a label, in an entry that begins at `from`.
abbrev pub name_faults : List Text → Placed Text → Faults
name_faults words w = FaultIf (length words ≤ name_number words w.it) name w.from

abbrev pub part_faults : List Text → (from : ℕ) → Part → Faults
part_faults words from p = name_faults words p.name or FaultIf (p.times < 1) amount from

abbrev pub label_faults : List Text → (from : ℕ) → Parts → Faults
label_faults words from = list_faults (part_faults words from) (part_item words from) 31

-- The entries of each kind of list, and the lists.
abbrev pub pair_faults : List Text → Placed WordPair → Faults
pair_faults words p = name_faults words p.it.left or name_faults words p.it.right

abbrev pub rule_faults : List Text → Placed WordRule → Faults
rule_faults words r =
    (label_faults words r.from r.it.left or FaultIf (actions r.it.left < 2) amount r.from) or name_faults words r.it.right

abbrev pub labels_faults : List Text → List (Placed Parts) → Faults
labels_faults words = list_faults (λ l. label_faults words l.from l.it) (label_item words) 32

abbrev pub entries_faults : List Text → Listed → Faults
entries_faults words (block ws) = list_faults (name_faults words) (name_item words) 0 ws
entries_faults words (hide ws) = list_faults (name_faults words) (name_item words) 0 ws
entries_faults words (rename ps) = list_faults (pair_faults words) (pair_item words) 0 ps
entries_faults words (comm rs) = list_faults (rule_faults words) (rule_item words) 8 rs
entries_faults words (allow ls) = labels_faults words ls

-- The numbers of a term: those of its operands below the term's own, that of a reference below the number of equations.
abbrev pub number_faults : (bound n from : ℕ) → Faults
number_faults bound n from = FaultIf (bound ≤ n) range from

abbrev pub both_faults : (bound t u : ℕ) → Places → Faults
both_faults bound t u at = number_faults bound t at.first or number_faults bound u at.second

abbrev pub numbers_faults : (equations n : ℕ) → Term → Places → Faults
numbers_faults equations n (act a) at = none
numbers_faults equations n tau at = none
numbers_faults equations n delta at = none
numbers_faults equations n (ref e) at = number_faults equations e at.first
numbers_faults equations n (sum t) at = number_faults n t at.first
numbers_faults equations n (cond t) at = number_faults n t at.first
numbers_faults equations n (choice t u) at = both_faults n t u at
numbers_faults equations n (ifelse t u) at = both_faults n t u at
numbers_faults equations n (seq t u) at = both_faults n t u at
numbers_faults equations n (merge t u) at = both_faults n t u at
numbers_faults equations n (lmerge t u) at = both_faults n t u at
numbers_faults equations n (sync t u) at = both_faults n t u at
numbers_faults equations n (wrap o t) at = number_faults n t at.first

-- The line of a term, by its number, and the order's line.
abbrev pub term_faults : List Text → (equations n : ℕ) → Line → Faults
term_faults words equations n (plain t at) = numbers_faults equations n t at
term_faults words equations n (acts w) = name_faults words w
term_faults words equations n (wraps l t) = entries_faults words l or number_faults n t.it t.from

abbrev pub order_faults : List Text → OrderLine → Faults
order_faults words all = none
order_faults words (only ls) = labels_faults words ls
