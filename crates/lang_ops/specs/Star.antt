-- Words of a language, any number of them one after another, and the kinds of words that the star distinguishes.
use Rattle.std.specs.Prelude.{◌≡◌, ◌↔◌, ℕ, List, IsTrue}
use Rattle.std.specs.List.{AllByRecursion, concat}
use Rattle.digit_tuple.specs.Deterministic.{Automaton, accepts_of}
use Rattle.lang_ops.specs.Rests.{SameRests}

-- the word is joined of pieces that the automaton accepts; of no piece it is the empty word
abbrev pub IsStarred : Automaton → List ℕ → Type 0
IsStarred a w = (pieces : List (List ℕ)) × (w ≡ concat pieces) × AllByRecursion (λ piece. IsTrue (accepts_of a piece)) pieces

-- both or neither of the words are in the star, and the language has the same residuals, but for the empty one, after what is left of
-- them after words of the star
pub record StarAlike (a : Automaton) (w v : List ℕ) : Type 0 where
  pub inside : IsStarred a w ↔ IsStarred a v
  pub rests : SameRests a (IsStarred a) w v
