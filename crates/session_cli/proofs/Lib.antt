-- Lemmas, in reading order.
pub mod ActionSteps
pub mod WordSteps
pub mod CommandSteps
pub mod MadeSteps
pub mod WholeSteps
pub mod LoadedTexts
pub mod AnsweringSteps
pub mod TextSteps
pub mod OneOutcomes
pub mod OneReplies
pub mod OneRuns
pub mod LongerScripts
pub mod CommandsMade
pub mod LawRefusals
