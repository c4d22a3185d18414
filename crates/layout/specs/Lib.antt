-- Where the sets of terms stand while they grow.
-- Woven: two ascending rows in one
pub mod Weaving
-- Standing: sets in one half of the work area; Grows: one of them with new labels in it
pub mod Layout
-- Moved: one set in another place; RoomMade: all of them; WovenInto: new labels in one of them
pub mod Laying
