-- `rimecutter::text_full` meets its contract: what is told in areas that are enough, written.
-- Assumes nothing.
use mathlib.Core.Path.{refl}
use Rattle.rimecutter.proofs.Texts.{told-printed}
use Rattle.rimecutter.proofs.text_full.Goals as goal

pub slice_bounds-respond_own-end : goal.slice_bounds-respond_own-end
slice_bounds-respond_own-end c = refl

pub returns : goal.returns
returns c =
    let done = c.respond_own-response in
    told-printed _ _ _ done.result done.ensures.told c.write_response.ensures
