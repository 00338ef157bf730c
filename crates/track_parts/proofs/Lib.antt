pub mod DivisionLemmas
pub mod RunLemmas
pub mod SpanLemmas
pub mod LettersInLemmas
pub mod FoundLetters
