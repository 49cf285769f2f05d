pub mod Words
pub mod Axes
pub mod Rows
pub mod Exits
pub mod Splits
pub mod Steps
pub mod Laid
pub mod Texts
