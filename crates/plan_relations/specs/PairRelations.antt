-- The relation of the places at which the letters of two words compare, made by a step.
use Rattle.std.specs.Prelude.{◌≡◌, ℕ, List, ◌++◌, length}
use Rattle.digit_tuple.specs.Names.{joint_names}
use Rattle.automaton_steps.specs.Makings.{Making}
use Rattle.num_system.specs.Sealed.{SystemValue}
use Rattle.num_system.specs.Tracks.{AgreeUnder, ShareDirection, systems_under}
use Rattle.num_system.specs.declared.comparison.Comparison.{Comparison}
use Rattle.number_relations.specs.Relations.{RelationValue, named_of}
use Rattle.word_output.specs.WordPairs.{IsPair, pair_step}
use Rattle.plan_relations.specs.PlacedWords.{PlacedWord, placed_letters}

-- the names of the tracks of the one and of the other, and their systems
abbrev pub both_under : PlacedWord → PlacedWord → List (List ℕ)
both_under a b = a.under ++ b.under

abbrev pub both_systems : PlacedWord → PlacedWord → List SystemValue
both_systems a b = a.word.systems ++ b.word.systems

-- each track has a name, tracks of one name have one system, and all have one direction
pub record MayPairWords (a b : PlacedWord) : Type 0 where
  pub first_count : length a.under ≡ length a.word.systems
  pub second_count : length b.under ≡ length b.word.systems
  pub agree : AgreeUnder (both_under a b) (both_systems a b)
  pub shared_direction : ShareDirection (both_systems a b)

-- the systems of the tracks of both, in byte order of their names: each that of the first track of its name
abbrev pub pair_systems : PlacedWord → PlacedWord → List SystemValue
pair_systems a b = systems_under (both_under a b) (both_systems a b) (joint_names a.under b.under)

-- the relation on the tracks of both, in byte order of their names, whose automaton is that of the pair
pub record IsRelationPair (comparison : Comparison) (a b : PlacedWord) (c : RelationValue) : Type 0 where
  pub systems : c.systems ≡ pair_systems a b
  pub pair : IsPair comparison (placed_letters a) (placed_letters b) (named_of c)

-- the step
abbrev pub relation_pair_step : Comparison → PlacedWord → PlacedWord → Making RelationValue
relation_pair_step comparison a b = record {
  step = (pair_step comparison (placed_letters a) (placed_letters b)).step;
  automaton_of = λ c. c.automaton;
  IsMade = IsRelationPair comparison a b;
}
