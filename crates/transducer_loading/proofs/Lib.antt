-- Lemmas.
pub mod TransducerSteps
pub mod OneAnswer
