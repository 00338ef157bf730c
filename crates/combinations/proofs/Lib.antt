pub mod TrackLemmas
pub mod ShapeLemmas
pub mod CombinedLemmas
pub mod HeldLemmas
pub mod CombinedReadings
pub mod CombinationLemmas
pub mod StepLemmas
pub mod OutcomeLemmas
