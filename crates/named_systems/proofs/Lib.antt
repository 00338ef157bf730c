-- Lemmas, in reading order.
pub mod KnownSteps
pub mod NamedLemmas
pub mod SealedLemmas
