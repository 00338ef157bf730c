-- Definitions that the contracts cite, in reading order.
pub mod ImageFormula
pub mod Recoded
pub mod ImageWords
pub mod RecodedLetters
pub mod Laws
