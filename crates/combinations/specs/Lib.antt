pub mod Parts
pub mod Shapes
pub mod Combined
pub mod CombineSteps
pub mod HeldLetters
pub mod Laws
