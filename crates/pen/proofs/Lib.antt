pub mod Copies
pub mod Digits
