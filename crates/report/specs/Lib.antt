pub mod Buffers
pub mod Laws
pub mod Refusals
pub mod Reports
pub mod Runs
pub mod Sheetings
