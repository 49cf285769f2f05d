pub mod Sheets
pub mod Room
