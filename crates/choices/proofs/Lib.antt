-- The laws of choices, each file after those that it cites.
-- whole: the walk on labels, which takes rules in their order; whole-sound: what it lists comes of the label by rules; complete: what
-- comes of the label is listed, or it comes of a smaller label that is followed by itself; Packed, next-packed: states that words pack
pub mod InOrder
-- minus-digits: a number less one that lies inside it, digit by digit; applies→: what a rule that applies takes and leaves; after-packed:
-- what goes on from a state goes by the numbers of its labels; comes-step: what comes of a state is its label and what comes of the states
-- that rules lead to
pub mod Unfolding
-- covered: of two states with the same label, the one with no less left of what rules take gives what the other gives
pub mod Covering
-- exchanges-read, rules-read: rules are read from the last to the first; backwards-in, in-backwards: that leaves none out; exchange,
-- rules-stored: a rule of a description as it is stored
pub mod Reading
-- outcome-by: on the numbers of the labels of an operand the walk gives the comm of the labels, or passes a limit, with the rules in any
-- order; gives-by, there-by, back_by, listed_by: what is listed of some of its labels, apart from a set; comm-outcome, gives, comm-there,
-- comm-back, comm-listed: the same with the rules as they are read from a list
pub mod Communication
