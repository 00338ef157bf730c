-- Complements of relations.
use Rattle.std.specs.Prelude.{◌≡◌}
use Rattle.num_system.specs.Tracks.{languages_of}
use Rattle.automaton_steps.specs.Makings.{Making}
use Rattle.automaton_steps.specs.ValiditySteps.{IsComplement, complement_step}
use Rattle.number_relations.specs.Relations.{RelationValue, named_of}

-- the relation on the same tracks whose automaton is the complement among the valid words
pub record IsRelationComplement (a c : RelationValue) : Type 0 where
  pub systems : c.systems ≡ a.systems
  pub complement : IsComplement (languages_of a.systems) (named_of a) (named_of c)

-- the step
abbrev pub relation_complement_step : RelationValue → Making RelationValue
relation_complement_step a = record {
  step = (complement_step (languages_of a.systems) (named_of a)).step;
  automaton_of = λ c. c.automaton;
  IsMade = IsRelationComplement a;
}
