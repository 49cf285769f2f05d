pub mod Fields
pub mod Fits
pub mod Fractions
pub mod Says
pub mod Shears
