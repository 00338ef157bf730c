pub mod Roots
pub mod Digits
pub mod Splits
pub mod Joins
pub mod GroupKeys
pub mod Places
pub mod Conversions
pub mod Laws
