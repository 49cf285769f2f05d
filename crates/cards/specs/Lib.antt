pub mod Cards
pub mod Denials
pub mod Fits
pub mod Fractions
pub mod Shears
pub mod SoundCards
pub mod Wholes
