-- Definitions that the contracts cite, in reading order.
pub mod Tracks
pub mod WordLines
pub mod Listings
