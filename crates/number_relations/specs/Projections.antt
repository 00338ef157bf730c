-- Projections of relations.
use Rattle.std.specs.Prelude.{◌≡◌, ℕ, List}
use Rattle.digit_tuple.specs.Names.{names_without}
use Rattle.num_system.specs.Sealed.{SystemValue}
use Rattle.num_system.specs.Tracks.{direction_of, systems_under}
use Rattle.automaton_steps.specs.Makings.{Making}
use Rattle.automaton_steps.specs.ProjectSteps.{IsProjection, project_step}
use Rattle.number_relations.specs.Relations.{RelationValue, named_of}

-- the systems of the tracks that stay when one is dropped
abbrev pub staying_systems : RelationValue → List ℕ → List SystemValue
staying_systems a track = systems_under a.names a.systems (names_without a.names track)

-- the relation on the other tracks whose automaton is the projection
pub record IsRelationProjection (track : List ℕ) (a c : RelationValue) : Type 0 where
  pub systems : c.systems ≡ staying_systems a track
  pub projection : IsProjection (direction_of a.systems) track (named_of a) (named_of c)

-- the step
abbrev pub relation_project_step : List ℕ → RelationValue → Making RelationValue
relation_project_step track a = record {
  step = (project_step (direction_of a.systems) track (named_of a)).step;
  automaton_of = λ c. c.automaton;
  IsMade = IsRelationProjection track a;
}
