-- Lemmas.
pub mod ReadSteps
pub mod PlaceSteps
pub mod FoundSteps
pub mod FileSteps
pub mod ListSteps
