-- The law of uniqueness and the computed cases; then the theorems, each file after those that it cites.
-- alike, alike-through: what is equal to the same is equal, also through a map that can be gone back
pub mod Alike
-- legal-tested: a computed test of legality, and that it is equivalent to legality
pub mod Legality
-- computed: the examples P1 to P8, as one table that the checker computes, and those of docs/EXACT.md
pub mod Alphabets
-- and_left, or_cases, compare-says, ..: tests against what they say
pub mod Tests
-- plus_comm, count-minus, size-plus, ..: the laws of bags
pub mod Bags
-- ≺-irrefl, ≺-trans, order-says: the order of labels is a strict order, and `order` tells it
pub mod Order
-- size→small, label_of-number, number-injective, number-below: a label and its number to base 32
pub mod Digits
-- sorted-once, sorted-unique, rising-unique, once-count: lists that ascend in a strict order
pub mod Ascent
-- in-append, in_map, in-product, in-ascending, same_set, ..: members of the lists that sets are made of
pub mod Members
-- without-twice, without-keeps, renamed_keeps, ..: hiding and renaming as maps of labels
pub mod Maps
-- allowed→, tau-allowed, allowed-common, clear-union, ..: allow lists and blocked names as filters of labels
pub mod Filters
-- sync-or-other, built-other: a term is a sync or any other
pub mod SyncOrOther
-- in-made, made-grows, made-same: what a term is made of, as a property of labels, and what it depends on
pub mod Shapes
-- multi-is, lines-agree: what a term is built of, by its line and its operands
pub mod Actions
-- carried: a relation of sets that two passes over the terms keep; growth, order and lengths are its instances
pub mod Carried
-- rounds-widen, rounds-grow, round-ascends: sets grow with widening and with each round, and ascend
pub mod Growth
-- round_sets-stable, union-is-stable, unstable-total: a stable round stays, and a round that is not stable adds a label
pub mod Stability
-- worked-is, sets-meet, sets-least: the sets of terms are the least ones that meet the rules
pub mod Least
-- bound-loses-nothing, image-acts, acts-image, length-image: what operators make of labels in sets is what they do on runs
pub mod Operators
-- comm-fed_back, fed_back-more: a rule for `comm` in which results take part again gives every label of `comm`, and more
pub mod FedBack
-- on_run→in_set: every label on any finite run is in the root's set
pub mod Soundness
-- exact-tested: the computed test of the exact kinds is the definition
pub mod ExactKinds
-- passes-as, leads-in, passes-in: from state to state in any number of steps, and a label on the way
pub mod Passages
-- in_set→on_run, exact, exact-list: where every term is of the exact kinds, the root's set holds just the labels on runs
pub mod Exact
-- step_of, on-no-run: the steps of a state by its form, and how a label is shown to be on no run
pub mod Steps
-- long→some_long, over-cases, over-grows, round-passes, rounds-bound: a limit that a part passes the whole passes
pub mod Limits
-- round-full: every label of a round has a count for each name
pub mod Lengths
-- reason-eq, answer-right, answers-unique, answer-only: equal verdicts have equal parts; the executable answer is the one that meets the statement
pub mod Answers
-- passed-answer, stable-answer, rounds-so-far, worked-over: what one round settles of the answer
pub mod Outcomes
-- set-held, listed-held, listed-few: what an answer lists
pub mod Listings
-- sets-widen, passes-widen, tightening: demand 3 of two legal descriptions
pub mod Widening
-- all-widens: `order=all` to every label of one name widens
pub mod WideningCases
-- cases, unseen-holds, exact-holds, lists: what the computed tables say of each of their rows
pub mod Examples
-- exact-cases, close-beside-done: two descriptions of the exact kinds
pub mod ExactCases
-- unseen-delta, unseen-ref, ..: for each kind that is not exact a description and a label of its list that is on no run
pub mod Unseen
-- hidden-twice, blocked-twice, allowed-twice, tau-passes: operators in a row
pub mod Rows
-- spread-choice, map-merge, spread-merge: operators over two sides
pub mod Spreading
-- same-rounds, same_answer, same-shapes: rounds and answers by the shapes of the terms alone
pub mod ByShapes
-- old-sets, old_rounds, old-answer: what was well-formed while sync was of multi-actions alone has the sets and the answer that it had
pub mod OldSync
-- rewritten-sets, rewritten-answer: a line regrouped in its place
pub mod Rewriting
-- extended-sets, extended-equations: lines that are added
pub mod Extending
-- unchanged, regrouped-root, regrouped-answer: a description regrouped
pub mod Regrouping
-- hide-over-merge: a pair of the examples is a regrouping
pub mod RegroupingCases
-- names-of-both, labels-of-both: two legal lists in a row have a legal one in their place
pub mod OneList
