use Rattle.std.proofs.Common.{take}
use Rattle.std.specs.List.{All}
use Rattle.number_relations.specs.Relations.{IsRelation}
use Rattle.combinations.specs.Parts.{PartValue}
use Rattle.combinations.proofs.part.are_relations.Given as goal

abbrev pub invariant-loop-part : goal.invariant-loop-part
invariant-loop-part l = All (λ (part : PartValue). IsRelation part.relation) (take l.part-index l.parts)
