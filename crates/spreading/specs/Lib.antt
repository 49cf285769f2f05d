pub mod Ceilings
pub mod Refusals
pub mod Spreads
