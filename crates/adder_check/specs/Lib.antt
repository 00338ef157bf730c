-- Definitions that the contracts cite, in reading order.
pub mod AdderLaws
pub mod Faults
pub mod BothForSome
pub mod LanguageSteps
pub mod SuccessorPlan
pub mod AdderRelation
pub mod ZeroSums
pub mod NextSums
pub mod SureSystems
pub mod Admission
pub mod OneAnswer
