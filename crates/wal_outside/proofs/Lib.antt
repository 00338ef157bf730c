-- Lemmas.
pub mod SendingSteps
pub mod SourceSteps
pub mod ShelfSteps
