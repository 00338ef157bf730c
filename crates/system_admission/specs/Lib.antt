-- Definitions that the contracts cite, in reading order.
pub mod Admissions
pub mod SystemSteps
pub mod NameAdmissions
pub mod KeptSystems
pub mod KeptViews
pub mod UserSystems
pub mod AdmissionLaws
