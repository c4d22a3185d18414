-- `lists::names::name_from` meets its contract: a name and its number.
-- Assumes nothing.
use mathlib.Core.Path.{refl, ◌∙◌}
use Rattle.labels.proofs.Codes.{code_of}
use Rattle.words.proofs.Steps.{goes, arrived, otherwise}
use Rattle.lists.proofs.Seen.{said_same, name-faulted}
use Rattle.lists.proofs.Starts.{start-found}
use Rattle.lists.proofs.names.name_from.Goals as goal

pub returns : goal.returns
returns c =
    let s = c.in_ok-w.ensures.stands in
    let a = c.args in
    let number =
    start-found a.names.now a.starts.now _ c.requires c.letter_of-letter.ensures refl c.find_from-n.ensures in
    record {
      stands =
          goes _ (goes _ s (arrived _ s.within))
          (otherwise (arrived _ s.within)
          (said_same (name-faulted a.names.now _ c.name_fault.ensures number) (code_of c.label_of.ensures ∙ number) refl));
    }
