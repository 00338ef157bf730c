-- Definitions that the contracts cite, in reading order.
pub mod FactPlans
pub mod FormulaPlans
pub mod Laws
pub mod FactPlanning
pub mod OwnNames
pub mod FormulaPlanning
