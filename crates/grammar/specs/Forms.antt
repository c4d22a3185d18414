-- The form of each line, with the LF that ends it (docs/FORMAT.md, "The lines"): what can be seen without knowing the names and the counts.
-- Assumes nothing.
use Rattle.std.specs.Prelude.{true, false, List, [], ◌∷◌, ℕ, ltb, length, drop}
use Rattle.meaning.specs.Descriptions.{Term, tau, delta, ref, sum, cond, choice, ifelse, seq, merge, lmerge, sync}
use Rattle.meaning.specs.Bytes.{Text, ascii}
use Rattle.meaning.specs.Rounds.{pick}
pub use Rattle.grammar.specs.Text.{lf}
use Rattle.grammar.specs.Text.{Past, past, stuck, onward, Placed, placed, ended, is_rest, literal, byte, number, word, separated}

-- the signs: space, comma, dot, colon and greater-than
abbrev pub space : ℕ
space = 32

abbrev pub comma : ℕ
comma = 44

abbrev pub dot : ℕ
dot = 46

abbrev pub colon : ℕ
colon = 58

abbrev pub greater : ℕ
greater = 62

-- What a line says before its names are looked up: names, numbers and the entries of lists with the places where they begin.
pub record Part : Type 0 where
  pub name : Placed Text
  pub times : ℕ

abbrev pub Parts : Type 0
Parts = List Part

pub record WordPair : Type 0 where
  pub left : Placed Text
  pub right : Placed Text

pub record WordRule : Type 0 where
  pub left : Parts
  pub right : Placed Text

pub data Listed : Type 0 where
  block hide : List (Placed Text) → Listed
  rename : List (Placed WordPair) → Listed
  comm : List (Placed WordRule) → Listed
  allow : List (Placed Parts) → Listed

-- where the numbers of a term begin, the first twice where there is one
pub record Places : Type 0 where
  pub first : ℕ
  pub second : ℕ

pub data Line : Type 0 where
  plain : Term → Places → Line
  acts : Placed Text → Line
  wraps : Listed → Placed ℕ → Line

pub data OrderLine : Type 0 where
  all : OrderLine
  only : List (Placed Parts) → OrderLine

-- `name:count` parts joined by `.`
unfoldable pub part : Text → Past Part
part s = onward (placed word s) (λ w r. onward (byte colon r) (λ _ q. onward (number q) (λ n p. past (record { name = w; times = n }) p)))

abbrev pub label : Text → Past Parts
label = separated dot part

-- LIST, PAIRS, RULES and LABELS
abbrev pub word_list : Text → Past (List (Placed Text))
word_list = separated comma (placed word)

unfoldable pub pair : Text → Past WordPair
pair s = onward (placed word s) (λ a r. onward (byte greater r) (λ _ q. onward (placed word q) (λ b p. past (record { left = a; right = b }) p)))

unfoldable pub rule : Text → Past WordRule
rule s = onward (label s) (λ a r. onward (byte greater r) (λ _ q. onward (placed word q) (λ b p. past (record { left = a; right = b }) p)))

abbrev pub pair_list : Text → Past (List (Placed WordPair))
pair_list = separated comma (placed pair)

abbrev pub rule_list : Text → Past (List (Placed WordRule))
rule_list = separated comma (placed rule)

unfoldable pub label_list : Text → Past (List (Placed Parts))
label_list s = elim (is_rest (ascii "none") s) [ true ↦ past [] (drop 4 s) | false ↦ separated comma (placed label) s ]

-- What follows a kind: its operands and its list.
unfoldable pub alone : Term → Text → Past Line
alone t s = onward (ended s) (λ _ r. past (plain t (record { first = 0; second = 0 })) r)

unfoldable pub of_name : Text → Past Line
of_name s = onward (byte space s) (λ _ r. onward (placed word r) (λ w q. onward (ended q) (λ _ p. past (acts w) p)))

abbrev pub operand : Text → Past (Placed ℕ)
operand s = onward (byte space s) (λ _ r. placed number r)

unfoldable pub of_last : (ℕ → Term) → (ℕ → Places) → Text → Past Line
of_last make at s = onward (operand s) (λ t q. onward (ended q) (λ _ p. past (plain (make t.it) (at t.from)) p))

abbrev pub of_one : (ℕ → Term) → Text → Past Line
of_one make = of_last make (λ from. record { first = from; second = from })

unfoldable pub of_two : (ℕ → ℕ → Term) → Text → Past Line
of_two make s = onward (operand s) (λ t q. of_last (make t.it) (λ from. record { first = t.from; second = from }) q)

unfoldable pub of_list : {A : Type 0} → (Text → Past A) → (A → Listed) → Text → Past Line
of_list list make s =
    onward (operand s) (λ t q. onward (byte space q) (λ _ p. onward (list p) (λ l o.
    onward (ended o) (λ _ n. past (wraps (make l) t) n))))

pub record Kind : Type 0 where
  pub word : Text
  pub rest : Text → Past Line

abbrev kind : Text → (Text → Past Line) → Kind
kind w r = record { word = w; rest = r }

-- No kind's word begins with another's. A kind's number is its place here; delta is 0, so that a word of 0 stands for a deadlock.
unfoldable pub kinds : List Kind
kinds =
    kind (ascii "delta") (alone delta)
    ∷ kind (ascii "tau") (alone tau)
    ∷ kind (ascii "act") of_name
    ∷ kind (ascii "ref") (of_one ref)
    ∷ kind (ascii "sum") (of_one sum)
    ∷ kind (ascii "cond") (of_one cond)
    ∷ kind (ascii "choice") (of_two choice)
    ∷ kind (ascii "ifelse") (of_two ifelse)
    ∷ kind (ascii "seq") (of_two seq)
    ∷ kind (ascii "merge") (of_two merge)
    ∷ kind (ascii "lmerge") (of_two lmerge)
    ∷ kind (ascii "sync") (of_two sync)
    ∷ kind (ascii "block") (of_list word_list block)
    ∷ kind (ascii "hide") (of_list word_list hide)
    ∷ kind (ascii "rename") (of_list pair_list rename)
    ∷ kind (ascii "comm") (of_list rule_list comm)
    ∷ kind (ascii "allow") (of_list label_list allow)
    ∷ []

-- The farther of two places in one text: where no kind's word stands, the line goes on as far as one of them does.
abbrev pub farther : Text → Past Line → Past Line
farther s (past l r) = past l r
farther s (stuck t) = stuck (pick (ltb (length s) (length t)) s t)

unfoldable pub of_kind : List Kind → Text → Past Line
of_kind [] s = stuck s
of_kind (k ∷ ks) s = elim (literal k.word s) [ past _ r ↦ k.rest r | stuck r ↦ farther r (of_kind ks s) ]

-- The keys, and the lines.
unfoldable pub count_line : Text → Text → Past (Placed ℕ)
count_line key s = onward (literal key s) (λ _ r. onward (placed number r) (λ n q. onward (ended q) (λ _ p. past n p)))

unfoldable pub name_line : Text → Past (Placed Text)
name_line s = onward (literal (ascii "name=") s) (λ _ r. onward (placed word r) (λ w q. onward (ended q) (λ _ p. past w p)))

unfoldable pub term_line : Text → Past Line
term_line s = onward (literal (ascii "term=") s) (λ _ r. of_kind kinds r)

unfoldable pub order_line : Text → Past OrderLine
order_line s =
    onward (literal (ascii "order=") s) (λ _ r. elim (is_rest (ascii "all") r) [
      | true ↦ past all (drop 4 r)
      | false ↦ onward (label_list r) (λ ls q. onward (ended q) (λ _ p. past (only ls) p))
    ])
