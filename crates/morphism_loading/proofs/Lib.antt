-- Lemmas.
pub mod MorphismSteps
pub mod OneAnswer
