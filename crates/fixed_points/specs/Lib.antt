pub mod LetterGraph
pub mod LeastLetters
pub mod LetterGraphLaws
pub mod Promotion
pub mod Laws
