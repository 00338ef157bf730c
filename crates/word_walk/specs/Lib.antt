-- Definitions that the contracts cite, in reading order.
pub mod Listed
pub mod Following
pub mod Walks
pub mod ListedKeys
pub mod ListedKeyLaws
pub mod Levels
pub mod FewStates
pub mod Sources
pub mod LevelStates
pub mod Distances
pub mod Lengths
pub mod Raising
pub mod Infinity
