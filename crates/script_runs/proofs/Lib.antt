-- Lemmas, in reading order.
pub mod ReplySteps
pub mod CountSums
pub mod Counting
pub mod Reached
pub mod MoreBytes
pub mod Cutting
pub mod ItemSteps
pub mod TextSteps
pub mod Between
pub mod CountedItems
pub mod WholeTexts
pub mod Statuses
pub mod OneRuns
pub mod LongerRuns
