-- Lemmas.
pub mod EntryLemmas
pub mod SetLemmas
pub mod ResultLemmas
pub mod LineLemmas
pub mod DraftLemmas
pub mod PlacedLemmas
pub mod LastLemmas
pub mod ReadLemmas
pub mod RunLemmas
