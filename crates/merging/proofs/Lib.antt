-- The laws of the union, each file after those that it cites.
-- rising-ascent, ascent-rising: an ascent is ascending, and an ascending list is its own
pub mod Ascents
-- joined-nil, joined-lower, joined-upper, joined_same: the union by its first number; joined_number: on the numbers of labels it is
-- the union
pub mod Unions
-- remaining: what is to come of a rest; remaining-all, remaining-stays; drawn-left, drawn-right, drawn-ended: the promise of `draw`;
-- draws: what is drawn from two rests is the union of both; drawn-none, drawn-some: whether a label is drawn
pub mod Draws
-- laying-start, laying-step, laying-end, laying-full, laying-both: the loop of `union_of`
pub mod UnionWalks
-- copying-start, copying-step, copying-end, copying-full, copying-one: the loop of `copy_of`
pub mod CopyWalks
-- cut_fits: it never passes the room; one-part: one list alone, first or second; union-number, union-outcome, union-result: on the
-- numbers of labels it is the union, or has more labels than there is room for
pub mod UnionLaws
