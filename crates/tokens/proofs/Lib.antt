pub mod Options
pub mod Digits
pub mod Decimals
pub mod Cutting
pub mod Words
pub mod Laws
pub mod Lays
pub mod Lengths
