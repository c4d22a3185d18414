-- What is counted of what a call says
pub mod Verdicts
