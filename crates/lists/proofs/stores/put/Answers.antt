-- `lists::stores::put` meets its contract: past the end a store changes nothing.
-- Assumes nothing.
use mathlib.Core.Path.{sym}
use lib.Seq.{set_out}
use Rattle.lists.proofs.stores.put.Goals as goal

pub returns-else-at-store : goal.returns-else-at-store
returns-else-at-store c = sym (set_out c.args.store.now c.args.at c.args.word c.if-at-store.false)
