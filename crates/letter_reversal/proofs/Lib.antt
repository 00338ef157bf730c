pub mod ReversedLetters
