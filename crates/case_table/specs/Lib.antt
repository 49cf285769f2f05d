pub mod Cases
pub mod Spelling
