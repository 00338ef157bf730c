-- Definitions that the contracts cite, in reading order.
pub mod TextOutcomes
pub mod Outcomes
pub mod RunOutcomes
pub mod Views
pub mod SessionLanguage
pub mod Made
pub mod Whole
pub mod Laws
-- what functions inside the crate do
pub mod Commands
pub mod LongerScripts
-- why the language of sessions is sound: a law of an `impl`, whose proof the language keeps among the definitions
pub mod OneTextCommands
pub mod TextSoundness
pub mod SoundCommands
pub mod StoredEntries
pub mod SoundLanguage
