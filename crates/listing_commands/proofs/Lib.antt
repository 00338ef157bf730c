-- Lemmas, in reading order.
pub mod ListingWords
pub mod ListingChains
pub mod ListingHeads
pub mod ListingMaking
pub mod ListingReady
pub mod ListingSteps
pub mod ListingReading
pub mod OneListings
pub mod ListingSoundness
