-- Relations in a list, each with a letter.
use Rattle.std.specs.Prelude.{ℕ, ℤ, List, [], map, slice_index_or}
use Rattle.num_system.specs.Sealed.{SystemValue}
use Rattle.number_relations.specs.Relations.{RelationValue}

-- a relation, and the letter of the numbers of which it is the first to hold
pub record PartValue : Type 0 where
  pub relation : RelationValue
  pub value : ℤ

-- the systems of the tracks of the relation at a place of the list; none past its end
abbrev pub systems_at : List PartValue → ℕ → List SystemValue
systems_at parts place = slice_index_or (map (λ (part : PartValue). part.relation.systems) parts) place []
