-- The laws of sets that stand in one half of the work area and grow there, each file after those that it cites.
-- raised: labels moved up by so many places; length-raised, take-raised, drop-raised: what they leave; raised-one: by one
pub mod Raises
-- weaving-start, weaving-old, weaving-new, weaving-end: the loop of `weave`; weaving-place, weaving-block: that of `insert_each`
pub mod Weaves
-- words-beside, words-laid: words after a set was laid in them; carried: the promises of `carry` and `raise`
pub mod Carries
-- standing-order, standing-begins, standing-next, standing-within, standing-upper: where the sets stand; standing-length: how long they
-- are; standing-as: the same of equal sets; standing-start: empty sets; sizes-mono, length-joined, sizes-joined: how many labels there
-- are together; joined-here, joined-other: the sets with new labels in one of them
pub mod Stands
-- planned, plan-within, pick_small, anew-start, anew-within, anew-step, anew-end: the loop of `lay_anew`
pub mod Layings
-- denies, affirms: the promise of `movable`; copied, unmoved, moved-set: that of `move_set`; unwoven, woven-set: that of `weave_into`;
-- roomy, made_as, grown: that of `grow`
pub mod Growths
