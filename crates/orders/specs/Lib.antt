pub mod Calls
pub mod Denials
pub mod Loads
pub mod Orders
pub mod Sound
pub mod Sums
pub mod Tables
