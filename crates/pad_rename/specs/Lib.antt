-- Definitions that the contracts cite, in reading order.
pub mod StayingTracks
pub mod ZeroClosure
pub mod Padding
pub mod OneWidth
pub mod SameBranching
pub mod ZerosStay
pub mod PaddedSets
pub mod PaddedPairs
pub mod PartReading
pub mod Substitution
pub mod Restriction
