pub mod HeadTracks
pub mod TrackSteps
pub mod RegOutcomes
pub mod LanguageOutcomes
pub mod RegexMakes
pub mod StoredRelations
pub mod LanguageMakes
