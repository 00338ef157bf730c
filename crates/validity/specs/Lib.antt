pub mod ValidParts
pub mod OneWidth
