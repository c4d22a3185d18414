-- The laws that the proofs of the calls cite, and the demands; each file after those that it cites.
-- fine-read, refused-read: what reading leaves in areas of the call's own, and why a text was refused
pub mod Readings
-- verdict-unique, settled-unique: any two results that meet the promise of a call are equal
pub mod Uniqueness
-- untold, told: whether an answer is refusal 7
pub mod Arms
-- short-, long- and cleared-responded, few-refused, few-worked, roomy-refused, full-worked: from what reading and the rounds answer to what a call leaves
pub mod Responses
-- told-printed, text-fits, long-printed: from what is told of a call to the text that is printed of it
pub mod Texts
-- due→, read→right, widens→safe, holds→shown, ..: the steps to the demands
pub mod DemandSteps
-- demand-1, demand-2, demand-3, refused-exactly, refusal-8, called-for, ..: the three demands of the order
pub mod Demands
-- exact-list, exact-list-text: exact lists, beside the demands
pub mod Exact
-- prints-as-before, called-as-before, described-as-before: what is printed stays as it was with at most 12 names
pub mod AsBefore
