pub mod Adding
pub mod Blame
pub mod Reasons
pub mod Told
pub mod Ended
