pub mod Days
pub mod Scripts
pub mod Transcripts
pub mod Unruns
