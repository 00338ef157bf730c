-- How many kinds of words there are.
use Rattle.std.specs.Prelude.{◌≡◌, ◌<◌, ℕ, List, length}
use Rattle.std.specs.List.{All, AllPairs, Any}
use Rattle.digit_tuple.specs.Letters.{IsWord}

-- k words over the alphabet of which no two are alike
pub record HasApart (alike : List ℕ → List ℕ → Type 0) (letters k : ℕ) : Type 0 where
  pub words : List (List ℕ)
  pub count : length words ≡ k
  pub over : All (IsWord letters) words
  pub apart : AllPairs (λ w v. ¬ alike w v) words

-- k words over the alphabet of which no two are alike, and to one of which each word over it is alike
pub record HasWidth (alike : List ℕ → List ℕ → Type 0) (letters k : ℕ) : Type 0 where
  pub some : HasApart alike letters k
  pub whole : (w : List ℕ) → IsWord letters w → Any (alike w) some.words

-- each word is alike to itself, and two words are alike that are alike to a third, in each order
pub record IsEquivalence (alike : List ℕ → List ℕ → Type 0) : Type 0 where
  pub reflexive : (w : List ℕ) → alike w w
  pub symmetric : (w v : List ℕ) → alike w v → alike v w
  pub transitive : (u v w : List ℕ) → alike u v → alike v w → alike u w

-- the width is one number, and no more words than that are apart: it excludes a refusal
pub record IsOneWidth (alike : List ℕ → List ℕ → Type 0) (letters : ℕ) : Type 0 where
  pub one : (j k : ℕ) → HasWidth alike letters j → HasWidth alike letters k → j ≡ k
  pub excludes : (j k : ℕ) → k < j → HasWidth alike letters k → ¬ HasApart alike letters j
