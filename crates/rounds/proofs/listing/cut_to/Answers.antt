-- `rounds::listing::cut_to` meets its contract: a set cut to an order, `all` or a list.
-- Assumes nothing.
use Rattle.areas.proofs.Held.{held_none}
use Rattle.rounds.proofs.listing.cut_to.Goals as goal

pub cut-requires : goal.cut-requires
cut-requires c = tt

pub label_words_of-requires : goal.label_words_of-requires
label_words_of-requires c = tt

pub cut-requires-in-Only : goal.cut-requires-in-Only
cut-requires-in-Only c = tt

pub returns-in-All : goal.returns-in-All
returns-in-All c =
    rw c.in-All.is (rw held_none at c.cut.ensures.words, rw held_none at c.cut.ensures.count)

pub returns-in-Only : goal.returns-in-Only
returns-in-Only c =
    rw c.in-Only.is (rw c.label_words_of.ensures at c.cut-in-Only.ensures.words, rw c.label_words_of.ensures at c.cut-in-Only.ensures.count)
