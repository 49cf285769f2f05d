pub mod Bearing
pub mod Judging
pub mod Raising
pub mod Sums
