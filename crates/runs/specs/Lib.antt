pub mod Tally
pub mod Answers
pub mod Runs
pub mod States
