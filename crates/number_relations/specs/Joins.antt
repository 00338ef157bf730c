-- Relations joined by a connective.
use Rattle.std.specs.Prelude.{◌≡◌, ℕ, List, ◌++◌}
use Rattle.std.specs.List.{Contains}
use Rattle.digit_tuple.specs.Names.{joint_names}
use Rattle.product_op.specs.declared.op.Op.{Op}
use Rattle.num_system.specs.Sealed.{SystemValue}
use Rattle.num_system.specs.Tracks.{languages_of, systems_under}
use Rattle.automaton_steps.specs.JoinSteps.{IsJoin, join_step}
use Rattle.automaton_steps.specs.Makings.{Making}
use Rattle.number_relations.specs.Relations.{RelationValue, named_of, system_named}

-- tracks of one name are over one system
abbrev pub AgreeOnSystems : RelationValue → RelationValue → Type 0
AgreeOnSystems a b = (name : List ℕ) → Contains a.names name → Contains b.names name → system_named a name ≡ system_named b name

-- the tracks of both have one direction; so have those of a relation without tracks and of any other
abbrev pub HaveOneDirection : RelationValue → RelationValue → Type 0
HaveOneDirection a b = (s t : SystemValue) → Contains a.systems s → Contains b.systems t → s.direction ≡ t.direction

-- the systems of the tracks of both, in byte order of the names: each that of the track of its name in the one, or else in the other
abbrev pub joint_systems : RelationValue → RelationValue → List SystemValue
joint_systems a b = systems_under (a.names ++ b.names) (a.systems ++ b.systems) (joint_names a.names b.names)

-- the relation on the tracks of both, in byte order of their names, whose automaton is the product of the two
pub record IsRelationJoin (op : Op) (a b c : RelationValue) : Type 0 where
  pub systems : c.systems ≡ joint_systems a b
  pub join : IsJoin op (languages_of (joint_systems a b)) (named_of a) (named_of b) (named_of c)

-- the step
abbrev pub relation_join_step : Op → RelationValue → RelationValue → Making RelationValue
relation_join_step op a b = record {
  step = (join_step op (languages_of (joint_systems a b)) (named_of a) (named_of b)).step;
  automaton_of = λ c. c.automaton;
  IsMade = IsRelationJoin op a b;
}
