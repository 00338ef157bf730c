pub mod Continuations
pub mod WordCounts
pub mod Prefixes
pub mod Choices
pub mod Places
pub mod Constants
pub mod ConstantWidth
pub mod WordPaths
