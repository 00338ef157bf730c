pub mod ListingOutcomes
pub mod ListingMakes
pub mod ListingFaults
