-- The laws that the readers' proofs cite, and the uniqueness of what is promised; each file after those that it cites.
-- ended_here, ended-not, operand_read, last-read, two-read, tail-act, act-no-space, act-line: what follows the word of a kind without a list
pub mod Operands
-- wrap-stuck, wrap-went, no_operand, no-space, no-list, no_end, wrap-line: the kinds with a list
pub mod WrapLines
-- many-names, room, plain-room, wrap-room: few enough names, or nothing is read
pub mod Room
-- seen-unique, tail-unique: what is settled of any two results that meet a promise
pub mod Uniqueness
