-- What the faults of the code stand for.
pub mod CodedFaults
pub mod Tallies
