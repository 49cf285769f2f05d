pub mod Blame
pub mod Frames
pub mod OrderFrames
pub mod Outcomes
pub mod Reasons
pub mod Refusals
