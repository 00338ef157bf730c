-- Lemmas for the contracts of this crate and of those above it.
pub mod FaultLemmas
pub mod NumberSteps
pub mod Decimals
pub mod PrefixLemmas
pub mod SpotLemmas
pub mod SignLemmas
pub mod SystemLemmas
