-- `lists::read_entry` meets its contract: each kind has its reader.
-- Assumes nothing.
use Rattle.lists.proofs.read_entry.Goals as goal

pub name_from-requires : goal.name_from-requires
name_from-requires c = c.requires.1

pub read_pair-requires : goal.read_pair-requires
read_pair-requires c = c.requires.1

pub read_rule-requires : goal.read_rule-requires
read_rule-requires c = c.requires

pub read_label-requires : goal.read_label-requires
read_label-requires c = c.requires

pub returns-in-Names : goal.returns-in-Names
returns-in-Names c = rw c.in-Names.is c.name_from.ensures

pub returns-in-Pairs : goal.returns-in-Pairs
returns-in-Pairs c = rw c.in-Pairs.is c.read_pair.ensures

pub returns-in-Rules : goal.returns-in-Rules
returns-in-Rules c = rw c.in-Rules.is c.read_rule.ensures

pub returns-in-Labels : goal.returns-in-Labels
returns-in-Labels c = rw c.in-Labels.is c.read_label.ensures
