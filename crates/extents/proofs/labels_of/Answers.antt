-- `extents::labels_of` meets its contract. Assumes nothing.
use mathlib.Core.Path.{◌≡◌, refl, sym, ap, ◌∙◌}
use mathlib.Core.List.{List}
use Prim.Native.Nat.{ℕ, ◌*◌, ◌-◌, ◌/◌, ◌≤◌}
use native.Mathlib.Omega.{arith}
use lib.ListN.{length, take, drop, length-drop}
use lib.Seq.{take_all}
use Rattle.areas.specs.Rows.{held}
use Rattle.areas.proofs.Held.{length-held, held_none, held-take, held-drop}
use Rattle.parts.specs.declared.Part.{Part}
use Rattle.extents.specs.Extents.{words_in}
use Rattle.extents.proofs.Rows.{words-none, words-cut}
use Rattle.extents.proofs.labels_of.Goals as goal
use Rattle.extents.proofs.labels_of.Goals.{After-labels_in-end}

-- the labels of the words that are cut out, up to the part's end and up to the end of the words
held_cut : (p : Part) (ws : List ℕ) → held (take (2 * p.to - 2 * p.from) (drop (2 * p.from) ws)) ≡ words_in p (held ws)
held_cut p ws =
    let n = p.to - p.from in
    let e : 2 * p.to - 2 * p.from ≡ 2 * n = omega arith in
    rw e (held-take n (drop (2 * p.from) ws) ∙ ap (take n) (held-drop p.from ws) ∙ words-cut p.from p.to p (held ws) refl refl)

held-rest : (p : Part) (ws : List ℕ) → length (held ws) ≤ p.to → held (take (length ws - 2 * p.from) (drop (2 * p.from) ws)) ≡ words_in p (held ws)
held-rest p ws h =
    ap held (take_all (length ws - 2 * p.from) (drop (2 * p.from) ws) (rw (length-drop (2 * p.from) ws) (omega arith)))
    ∙ held-drop p.from ws ∙ ap (drop p.from) (sym (take_all p.to (held ws) h))

-- two words to a label
ended : (c : After-labels_in-end) → c.labels_in-end.result ≡ length c.args.words.now / 2
ended c = c.labels_in-end.ensures ∙ length-held c.args.words.now

pub returns-then-end-part : goal.returns-then-end-part
returns-then-end-part c =
    let a = c.args in
    held_none ∙ sym (words-none a.part (held a.words.now) (omega (arith, c.labels_in-end.ensures, c.if-end-part.true)))

pub returns-then-part : goal.returns-then-part
returns-then-part c =
    let a = c.args in
    held_none ∙ sym (words-none a.part (held a.words.now) (omega (arith, c.if-part.true)))

pub overflow_mul-result : goal.overflow_mul-result
overflow_mul-result c = omega (arith, ended (goal.at.overflow_mul-result c).After-labels_in-end)

pub overflow_mul-result-then-part-end : goal.overflow_mul-result-then-part-end
overflow_mul-result-then-part-end c = omega (arith, ended (goal.at.overflow_mul-result-then-part-end c).After-labels_in-end)

pub offset_bounds-words-part : goal.offset_bounds-words-part
offset_bounds-words-part c = omega (arith, ended (goal.at.offset_bounds-words-part c).After-labels_in-end)

pub slice_bounds-result-end-then-part-end : goal.slice_bounds-result-end-then-part-end
slice_bounds-result-end-then-part-end c = omega (arith, ended (goal.at.slice_bounds-result-end-then-part-end c).After-labels_in-end)

pub returns-then-part-end : goal.returns-then-part-end
returns-then-part-end c =
    let a = c.args in
    held_cut a.part a.words.now

pub overflow_mul-result-2 : goal.overflow_mul-result-2
overflow_mul-result-2 c = omega (arith, ended (goal.at.overflow_mul-result-2 c).After-labels_in-end)

pub offset_bounds-words-part-2 : goal.offset_bounds-words-part-2
offset_bounds-words-part-2 c = omega (arith, ended (goal.at.offset_bounds-words-part-2 c).After-labels_in-end)

pub slice_bounds-result-count-2 : goal.slice_bounds-result-count-2
slice_bounds-result-count-2 c = omega (arith, ended (goal.at.slice_bounds-result-count-2 c).After-labels_in-end)

pub slice_bounds-result-start-2 : goal.slice_bounds-result-start-2
slice_bounds-result-start-2 c = omega (arith, ended (goal.at.slice_bounds-result-start-2 c).After-labels_in-end)

pub returns : goal.returns
returns c =
    let a = c.args in
    held-rest a.part a.words.now (omega (arith, c.labels_in-end.ensures, c.if-part-end.false))
