-- Lemmas, in reading order.
pub mod FormulaCheckNames
pub mod FormulaReadingChecks
pub mod MacroReads
pub mod FilesAlike
pub mod FormulaSolutions
pub mod FormulaReady
pub mod FormulaGround
pub mod FormulaRefusals
pub mod FormulaChains
pub mod FormulaWrites
pub mod FormulaMaking
pub mod OneReadings
pub mod OneMacros
pub mod OneBuildings
pub mod OneFormulas
pub mod FormulaSoundness
