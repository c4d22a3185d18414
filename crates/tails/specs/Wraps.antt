-- The kinds with a list.
-- Assumes nothing.
use Rattle.std.specs.Prelude.{List, ℕ, ◌%◌, ◌^◌, eqb}
use Rattle.meaning.specs.Bytes.{Text}
use Rattle.meaning.specs.Rounds.{pick}
use Rattle.slots.specs.Packing.{operator_at}
use Rattle.slots.specs.declared.Term.{Term}
use Rattle.slots.specs.declared.Term.TheVariants.{Wrap}
use Rattle.grammar.specs.Text.{Past, Placed}
use Rattle.grammar.specs.Forms as F
use Rattle.grammar.specs.Forms.{Listed, Parts, WordPair, WordRule, word_list, pair_list, rule_list, label_list}
use Rattle.labels.specs.Packing.{code}
use Rattle.lists.specs.declared.Said.{Said}
use Rattle.lists.specs.declared.ListKind.{ListKind}
use Rattle.lists.specs.declared.ListKind.TheVariants.{Names, Pairs, Rules, Labels}

pub data WrapKind : Type 0 where
  Block Hide Rename Comm Allow : WrapKind

-- by their places among all kinds; every other place is that of allow
abbrev pub wrap_of : ℕ → WrapKind
wrap_of k = pick (eqb k 12) Block (pick (eqb k 13) Hide (pick (eqb k 14) Rename (pick (eqb k 15) Comm Allow)))

abbrev pub list_kind : WrapKind → ListKind
list_kind Block = Names
list_kind Hide = Names
list_kind Rename = Pairs
list_kind Comm = Rules
list_kind Allow = Labels

abbrev pub ContentsOf : WrapKind → Type 0
ContentsOf Block = List (Placed Text)
ContentsOf Hide = List (Placed Text)
ContentsOf Rename = List (Placed WordPair)
ContentsOf Comm = List (Placed WordRule)
ContentsOf Allow = List (Placed Parts)

abbrev pub contents : (w : WrapKind) → Text → Past (ContentsOf w)
contents Block = word_list
contents Hide = word_list
contents Rename = pair_list
contents Comm = rule_list
contents Allow = label_list

abbrev pub wrap_listed : (w : WrapKind) → ContentsOf w → Listed
wrap_listed Block ws = F.block ws
wrap_listed Hide ws = F.hide ws
wrap_listed Rename ps = F.rename ps
wrap_listed Comm rs = F.comm rs
wrap_listed Allow ls = F.allow ls

-- the term of a kind with a list, at its number
abbrev pub wrap_term : ℕ → ℕ → ℕ → Said → Term
wrap_term k t n said = Wrap (operator_at k (record { at = n; entries = code said.first % 2 ^ 64 })) t
