pub mod Words
pub mod Asked
pub mod Lines
pub mod Entries
pub mod Reading
pub mod Steps
pub mod Render
pub mod Exact
