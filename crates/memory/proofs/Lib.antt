-- The laws of the memory of states.
-- covers-end, covers-fails, covers-on, too_short, another, fewer-rules, between-rules, decided, holds-here, holds_later, holds-nowhere,
-- none-known, by-slot, written, nowhere-written: what the functions ask and write, one step at a time
pub mod Holding
-- known→there, known→some, nothing_known, recalls-more, remembered-recalls, length-remembered, recalls-none, recalls-nothing: all that
-- comes of what is kept is in a set
pub mod Recalling
