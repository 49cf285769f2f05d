pub mod Ceilings
pub mod Laws
pub mod Tails
