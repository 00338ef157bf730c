pub mod PlaceLemmas
pub mod FormulaTruth
pub mod LetterLemmas
pub mod TreeLemmas
pub mod RecodingLemmas
