pub mod Failures
pub mod Heights
pub mod Kits
pub mod Limits
pub mod Ranges
