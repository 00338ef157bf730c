-- Lemmas, in reading order.
pub mod OneOptions
pub mod ClapTurns
pub mod ClapUses
pub mod ClapWalks
pub mod ClapPasses
