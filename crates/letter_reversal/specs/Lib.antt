pub mod LetterReversals
pub mod Laws
