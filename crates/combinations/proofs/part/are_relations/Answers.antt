use Rattle.std.proofs.Common.{subst, arith}
use Rattle.std.specs.List.{All}
use Rattle.std.proofs.lemmas.List.{take_all}
use Rattle.std.proofs.lemmas.List.Elements.{All-more}
use Rattle.number_relations.specs.Relations.{IsRelation}
use Rattle.combinations.specs.Parts.{PartValue}
use Rattle.combinations.proofs.part.are_relations.Goals as goal

pub loop-part-preserved : goal.loop-part-preserved
loop-part-preserved c =
    All-more (λ (part : PartValue). IsRelation part.relation) c.args.parts.now c.loop-part.part-index c.part-item.result c.loop-part-test.true c.loop-part.invariant
    (subst (λ (part : PartValue). IsRelation part.relation) c.part-item.is c.relation-relation.ensures.relation)

pub returns : goal.returns
returns c = subst (All (λ (part : PartValue). IsRelation part.relation)) (take_all c.loop-part.part-index c.args.parts.now (omega (arith, c.loop-part-test.false))) c.loop-part.invariant
