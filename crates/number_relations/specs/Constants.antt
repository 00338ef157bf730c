-- Relations that hold of one number alone.
use Rattle.std.specs.Prelude.{◌≡◌, ℕ, List, [], ◌∷◌}
use Rattle.digit_tuple.specs.declared.kind.Kind.TheVariants as kinds
use Rattle.minimise.specs.Canonical.{IsCanonical}
use Rattle.automaton_steps.specs.Makings.{Making}
use Rattle.constants.specs.Constants.{IsConstantOf, ConstantAlike}
use Rattle.num_system.specs.Sealed.{SystemValue, system_of}
use Rattle.number_relations.specs.Relations.{RelationValue}

-- the relation on one track of a system whose automaton is that of the number
pub record IsRelationConstant (system : SystemValue) (number : ℕ) (name : List ℕ) (c : RelationValue) : Type 0 where
  pub names : c.names ≡ name ∷ []
  pub systems : c.systems ≡ system ∷ []
  pub constant : IsConstantOf system.direction (system_of system) number c.automaton
  pub canonical : IsCanonical c.automaton

-- the step
abbrev pub relation_constant_step : SystemValue → ℕ → List ℕ → Making RelationValue
relation_constant_step system number name = record {
  step = record { kind = kinds.Const; sizes = system.digits ∷ []; alike = ConstantAlike system.direction (system_of system) number };
  automaton_of = λ c. c.automaton;
  IsMade = IsRelationConstant system number name;
}
