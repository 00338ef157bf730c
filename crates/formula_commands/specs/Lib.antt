pub mod MacroChecks
pub mod FormulaOutcomes
pub mod VariablesOver
pub mod FormulaMakes
pub mod MacroMakes
