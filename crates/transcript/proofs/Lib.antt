pub mod Lines
pub mod Scripts
