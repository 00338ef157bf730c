-- Lemmas.
pub mod LoadSteps
pub mod FoundLemmas
pub mod TakingSteps
pub mod LanguageSteps
pub mod AdderSteps
pub mod OnePair
pub mod OneSystem
