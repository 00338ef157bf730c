-- Lemmas.
pub mod OneSystem
pub mod UserSystems
