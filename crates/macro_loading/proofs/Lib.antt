pub mod ShortTexts
pub mod ReadTexts
pub mod ChosenFiles
pub mod ExpandedSteps
pub mod OneAnswers
