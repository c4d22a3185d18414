-- `tally_texts::write_lines` meets its contract: each line, and the seven of the refusals together, behind those before them.
-- Assumes nothing.
use mathlib.Core.Path.{◌≡◌, refl}
use mathlib.Core.List.{◌++◌}
use Prim.Native.Nat.{ℕ, ◌≤◌}
use lib.ListN.{length, take}
use Rattle.meaning.specs.Bytes.{Text, ascii}
use Rattle.grammar.specs.Marks.{decimal}
use Rattle.grammar.specs.Printed.{line}
use Rattle.grammar.specs.Areas.{Written}
use Rattle.grammar.proofs.Underway.{Underway, underway-start, underway-room, written-length}
use Rattle.tally.specs.declared.Tally.{Tally}
use Rattle.tally.specs.Figures.{refusal_numbers, refused}
use Rattle.tally_texts.specs.Texts.{reason_lines, tally_text}
use Rattle.tally_texts.proofs.Behind.{behind-room, behind-step, behind-last}
use Rattle.tally_texts.proofs.write_lines.Goals as goal
use Rattle.tally_texts.proofs.write_lines.Goals.{After-add_line-end, After-add_line-end-2, After-add_line-end-3, After-add_reasons-end, After-add_line-end-4}

-- the lines, and what is to come from each on
abbrev described : Tally → Text
described t = line (ascii "descriptions=") (decimal t.descriptions)

abbrev answered : Tally → Text
answered t = line (ascii "answered=") (decimal t.answered)

abbrev refused_line : ℕ → Text
refused_line n = line (ascii "refused=") (decimal n)

abbrev reasons : Tally → Text
reasons t = reason_lines refusal_numbers t.refusals

abbrev labels : Tally → Text
labels t = line (ascii "labels=") (decimal t.labels)

abbrev rounds : Tally → Text
rounds t = line (ascii "rounds=") (decimal t.rounds)

abbrev from_labels : Tally → Text
from_labels t = labels t ++ rounds t

abbrev from_reasons : Tally → Text
from_reasons t = reasons t ++ from_labels t

abbrev from_refused : Tally → Text
from_refused t = refused_line (refused t) ++ from_reasons t

abbrev from_answered : Tally → Text
from_answered t = answered t ++ from_refused t

-- so much of the text is to come, and the area stands so
abbrev Left : Text → Tally → Text → Text → ℕ → Type 0
Left before t todo area at = Underway (tally_text t) todo before area at

-- all is to come
all_left : (before : Text) (t : Tally) → length (tally_text t) ≤ length before → Left before t (described t ++ from_answered t) before 0
unfolding tally_text
all_left before t h = underway-start refl h

-- what is to come behind each line
past_described : {before area : Text} {r : ℕ} (t : Tally) → length (tally_text t) ≤ length before → Written (take 0 before ++ described t) before area r →
    Left before t (from_answered t) area r
past_described {before} t h w = behind-step (described t) (from_answered t) (all_left before t h) w

past_answered : {before mid area : Text} {k r : ℕ} (t : Tally) → Left before t (from_answered t) mid k → Written (take k mid ++ answered t) mid area r →
    Left before t (from_refused t) area r
past_answered t u w = behind-step (answered t) (from_refused t) u w

past_refused : {before mid area : Text} {k r n : ℕ} (t : Tally) → Left before t (from_refused t) mid k → n ≡ refused t →
    Written (take k mid ++ refused_line n) mid area r → Left before t (from_reasons t) area r
past_refused {n = n} t u e w = behind-step (refused_line n) (from_reasons t) (rw (← e) at u) w

past_reasons : {before mid area : Text} {k r : ℕ} (t : Tally) → Left before t (from_reasons t) mid k → Written (take k mid ++ reasons t) mid area r →
    Left before t (from_labels t) area r
past_reasons t u w = behind-step (reasons t) (from_labels t) u w

past_labels : {before mid area : Text} {k r : ℕ} (t : Tally) → Left before t (from_labels t) mid k → Written (take k mid ++ labels t) mid area r →
    Left before t (rounds t) area r
past_labels t u w = behind-step (labels t) (rounds t) u w

pub add_line-end-requires : goal.add_line-end-requires
add_line-end-requires c = let t = c.args.tally in behind-room (described t) (from_answered t) (all_left c.args.text.now t c.requires)

left1 : (c : After-add_line-end) → Left c.args.text.now c.args.tally (from_answered c.args.tally) c.add_line-end.new.text c.add_line-end.result
left1 c = past_described c.args.tally c.requires c.add_line-end.ensures

-- `answered=` is next
pub add_line-end-requires-2 : goal.add_line-end-requires-2
add_line-end-requires-2 c = let t = c.args.tally in behind-room (answered t) (from_refused t) (left1 (goal.at.add_line-end-requires-2 c).After-add_line-end)

left2 : (c : After-add_line-end-2) → Left c.args.text.now c.args.tally (from_refused c.args.tally) c.add_line-end-2.new.text c.add_line-end-2.result
left2 c = let t = c.args.tally in past_answered t (past_described t c.requires c.add_line-end.ensures) c.add_line-end-2.ensures

-- `refused=`
pub add_line-end-requires-3 : goal.add_line-end-requires-3
add_line-end-requires-3 c =
    let u = rw (← c.refused_in.ensures) at (left2 (goal.at.add_line-end-requires-3 c).After-add_line-end-2) in
    behind-room (refused_line c.refused_in.result) (from_reasons c.args.tally) u

left3 : (c : After-add_line-end-3) → Left c.args.text.now c.args.tally (from_reasons c.args.tally) c.add_line-end-3.new.text c.add_line-end-3.result
left3 c =
    let t = c.args.tally in
    let u = past_answered t (past_described t c.requires c.add_line-end.ensures) c.add_line-end-2.ensures in
    past_refused t u c.refused_in.ensures c.add_line-end-3.ensures

-- the lines of the refusals
pub add_reasons-end-requires : goal.add_reasons-end-requires
add_reasons-end-requires c = let t = c.args.tally in behind-room (reasons t) (from_labels t) (left3 (goal.at.add_reasons-end-requires c).After-add_line-end-3)

left4 : (c : After-add_reasons-end) → Left c.args.text.now c.args.tally (from_labels c.args.tally) c.add_reasons-end.new.text c.add_reasons-end.result
left4 c =
    let t = c.args.tally in
    let u = past_answered t (past_described t c.requires c.add_line-end.ensures) c.add_line-end-2.ensures in
    past_reasons t (past_refused t u c.refused_in.ensures c.add_line-end-3.ensures) c.add_reasons-end.ensures

-- `labels=`
pub add_line-end-requires-4 : goal.add_line-end-requires-4
add_line-end-requires-4 c = let t = c.args.tally in behind-room (labels t) (rounds t) (left4 (goal.at.add_line-end-requires-4 c).After-add_reasons-end)

left5 : (c : After-add_line-end-4) → Left c.args.text.now c.args.tally (rounds c.args.tally) c.add_line-end-4.new.text c.add_line-end-4.result
left5 c =
    let t = c.args.tally in
    let u = past_answered t (past_described t c.requires c.add_line-end.ensures) c.add_line-end-2.ensures in
    let v = past_reasons t (past_refused t u c.refused_in.ensures c.add_line-end-3.ensures) c.add_reasons-end.ensures in
    past_labels t v c.add_line-end-4.ensures

-- `rounds=` is the last
pub add_line-requires : goal.add_line-requires
add_line-requires c = underway-room (left5 (goal.at.add_line-requires c).After-add_line-end-4)

pub returns : goal.returns
returns c = behind-last (rounds c.args.tally) (left5 (goal.at.returns c).After-add_line-end-4) c.add_line.ensures

pub shape_of-text : goal.shape_of-text
shape_of-text c = written-length c.requires (behind-last (rounds c.args.tally) (left5 (goal.at.shape_of-text c).After-add_line-end-4) c.add_line.ensures)
