pub mod Cuts
pub mod WordSteps
pub mod TreeSteps
pub mod Weights
