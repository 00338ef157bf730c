-- Definitions that the contracts cite, in reading order.
pub mod Image
pub mod Projection
pub mod OneWidth
