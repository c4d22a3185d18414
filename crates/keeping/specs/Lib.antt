-- A set kept alone in the work area.
-- alone: a set with 0 behind it; Settled: what `settle` promises
pub mod Settling
