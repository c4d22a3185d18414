-- What each kind of entry says, with its names looked up, and what the answer of its reader stands for.
-- Assumes nothing.
use Rattle.std.specs.Prelude.{List, ℕ, ◌+◌, ◌*◌, ◌^◌, ◌<◌, min, leb, length}
use Rattle.meaning.specs.Bytes.{Text}
use Rattle.meaning.specs.Rounds.{pick}
use Rattle.grammar.specs.Text.{Past, past, stuck, onward, Placed, placed, word}
use Rattle.grammar.specs.Forms.{Part, Parts, WordPair, WordRule, label, pair, rule}
use Rattle.grammar.specs.Faults.{Found, fine, fault, name_number, name_fault, part_item, pair_fault, rule_fault, actions, label_fault, number_said}
use Rattle.labels.specs.Packing.{code}
use Rattle.faults.specs.CodedFaults.{found_of}
use Rattle.words.specs.Steps.{Reading, Steps}
use Rattle.lists.specs.Tallies.{Said}
use Rattle.lists.specs.declared.Said as C
use Rattle.lists.specs.declared.ListKind.{ListKind}
use Rattle.lists.specs.declared.ListKind.TheVariants.{Names, Pairs, Rules, Labels}

-- An entry that was read, with its fault and its numbers: it begins where the text does that its reader is lent.
abbrev pub said_of : (from : ℕ) → C.Said → Said
said_of from e = record { found = found_of e.fault; first = code e.first; second = e.second; from = from }

abbrev pub Says : Text → Reading C.Said → Past Said → Type 0
Says line r due = Steps (said_of (length line)) line r due

-- an item, as what it says
abbrev pub seen : {A : Type 0} → (A → Said) → (Text → Past A) → Text → Past Said
seen say item s = onward (item s) (λ a r. past (say a) r)

-- a part of the entry at a place
abbrev pub part_said : List Text → (entry : ℕ) → Part → Said
part_said words entry p =
    record { found = (part_item words entry p).own; first = name_number words p.name.it; second = p.times; from = p.name.from }

-- a number that counts only where there is no fault
abbrev pub unless_faulty : Found → ℕ → ℕ
unless_faulty fine n = n
unless_faulty (fault f from) n = 0

-- A label: its number, and its actions up to one more than a label may have.
abbrev pub label_entry : List Text → Placed Parts → Said
label_entry words l =
    record {
      found = label_fault words l.from l.it;
      first = unless_faulty (label_fault words l.from l.it) (number_said words l.it);
      second = min 32 (actions l.it);
      from = l.from;
    }

-- a part that may be added to a label's number
abbrev pub Room : Found → ℕ → ℕ → ℕ → Type 0
Room fine number name times = (name < 24) × (times < 32) × (number + times * 32 ^ name < 2 ^ 124)
Room (fault f from) number name times = Unit {0}

-- The entries of the lists.
abbrev pub name_entry : List Text → Placed Text → Said
name_entry words w = record { found = name_fault words w; first = name_number words w.it; second = 0; from = w.from }

abbrev pub pair_entry : List Text → Placed WordPair → Said
pair_entry words p =
    record {
      found = pair_fault words p.it;
      first = name_number words p.it.left.it;
      second = name_number words p.it.right.it;
      from = p.from;
    }

abbrev pub rule_entry : List Text → Placed WordRule → Said
rule_entry words r =
    record {
      found = rule_fault words r.from r.it;
      first = unless_faulty (label_fault words r.from r.it.left) (number_said words r.it.left);
      second = name_number words r.it.right.it;
      from = r.from;
    }

-- An entry of a list of that kind.
abbrev pub entry_of : List Text → ListKind → Text → Past Said
entry_of words Names = seen (name_entry words) (placed word)
entry_of words Pairs = seen (pair_entry words) (placed pair)
entry_of words Rules = seen (rule_entry words) (placed rule)
entry_of words Labels = seen (label_entry words) (placed label)

-- A description has at most 24 names; with more nothing is read.
abbrev pub with_few : {A : Type 0} → List ℕ → Past A → Text → Past A
with_few names due s = pick (leb (length names) 24) due (stuck s)
