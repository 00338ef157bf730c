pub mod Transducers
pub mod Entries
pub mod EntryViews
pub mod Reading
pub mod Conflicts
pub mod LastResults
pub mod Drafts
pub mod LetterRuns
