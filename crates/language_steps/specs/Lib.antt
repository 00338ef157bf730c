-- Definitions that the contracts cite, in reading order.
pub mod Tables
pub mod LanguageSteps
pub mod Operands
pub mod Laws
