-- The laws that the writers' proofs cite, each file after those that it cites.
-- no_bytes, first_byte, next_byte, name-first, length-name: a packed name's next byte and those behind it
pub mod Names
-- parts-start, -room, parts_again, parts-early, -end: a label's parts, each behind those before it
pub mod Parts
-- parts-written, tau-written, length_label: `tau` in the place of no parts, and how long a label can be
pub mod Tau
