-- All words of a length.
use Rattle.std.specs.Prelude.{◌≡◌, ℕ, List, ◌∷◌, map, length}
use Rattle.std.specs.List.{All, AllPairs, Contains}
use Rattle.digit_tuple.specs.Letters.{IsWord}
use Rattle.digit_tuple.specs.Shortlex.{IsLetterwiseBefore}

-- these are all words of a length over so many letters, each once, in the order of their first letters that differ
pub record AreAllWords (letters n : ℕ) (words : List (List ℕ)) : Type 0 where
  pub over : All (IsWord letters) words
  pub long : All (λ w. length w ≡ n) words
  pub whole : (w : List ℕ) → IsWord letters w → length w ≡ n → Contains words w
  pub ordered : AllPairs IsLetterwiseBefore words

-- each word after a letter
abbrev pub after_letter : List (List ℕ) → ℕ → List (List ℕ)
after_letter words letter = map (λ w. letter ∷ w) words
