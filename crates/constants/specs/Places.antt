-- The place of a word among the words of its length in a language.
use Rattle.std.specs.Prelude.{◌≡◌, ℕ, Bool, ◌&&◌, List, length, IsTrue}
use Rattle.std.specs.List.{count_by}
use Rattle.digit_tuple.specs.Letters.{IsWord}
use Rattle.numeration.specs.Words.{words, is_less}

-- the word of the language of a length before which so many of that length are
pub record IsAtPlace (d : ℕ) (test : List ℕ → Bool) (n place : ℕ) (w : List ℕ) : Type 0 where
  pub over : IsWord d w
  pub long : length w ≡ n
  pub valid : IsTrue (test w)
  pub placed : count_by (λ v. test v && is_less v w) (words d (length w)) ≡ place
