-- Definitions that the contracts cite, in reading order.
pub mod Makings
pub mod OneAnswers
pub mod ReadSteps
pub mod ReverseSteps
pub mod PadSteps
pub mod ValiditySteps
pub mod JoinSteps
pub mod ProjectSteps
pub mod OrderSteps
pub mod Numbered
pub mod Laws
