pub mod ListSteps
pub mod Walks
pub mod Complete
pub mod Sound
pub mod Breaking
pub mod OneParse
pub mod ReadingSteps
