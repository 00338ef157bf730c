-- Lemmas, in reading order.
pub mod OneSteps
pub mod Readings
pub mod Chains
pub mod MadeSizes
pub mod HeaderLemmas
pub mod Coded
pub mod MadeWords
pub mod HeaderSets
pub mod TableWords
