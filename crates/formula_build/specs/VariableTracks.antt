-- The tracks of a relation that are variables, each over its system.
use Rattle.std.specs.Prelude.{◌≡◌, List, [], ◌∷◌, map, ⊤}
use Rattle.formula_resolve.specs.declared.variable.Variable.{Variable}
use Rattle.num_system.specs.Sealed.{SystemValue}
use Rattle.number_relations.specs.Relations.{RelationValue}
use Rattle.plan_relations.specs.Libraries.{LibraryValue, IsSystemIn}

-- the systems are those of the variables, in their order
abbrev pub AreSystemsOf : LibraryValue → List Variable → List SystemValue → Type 0
AreSystemsOf l [] [] = ⊤
AreSystemsOf l [] (s ∷ ss) = ⊥
AreSystemsOf l (v ∷ vs) [] = ⊥
AreSystemsOf l (v ∷ vs) (s ∷ ss) = IsSystemIn l v.system s × AreSystemsOf l vs ss

-- the tracks of the relation are these variables, in their order, each over the system of its name
pub record IsOverVariables (l : LibraryValue) (variables : List Variable) (r : RelationValue) : Type 0 where
  pub names_are : r.names ≡ map (λ v. v.name) variables
  pub systems_are : AreSystemsOf l variables r.systems
