pub mod ShiftedSteps
pub mod LineLemmas
