-- Definitions that the contracts cite, in reading order.
pub mod Draws
pub mod Scripts
