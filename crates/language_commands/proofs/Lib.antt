-- Lemmas, in reading order.
pub mod RegexCheckNames
pub mod RegexReadingChecks
pub mod TrackSystemSteps
pub mod RegexWrites
pub mod RegSteps
pub mod LanguageWords
pub mod NamedLanguages
pub mod LanguageTexts
pub mod LanguageTables
pub mod LanguageChains
pub mod NameLemmas
pub mod OneExpression
pub mod OneRegs
pub mod OneLanguages
pub mod RegSoundness
pub mod LanguageSoundness
