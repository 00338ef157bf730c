use Rattle.plan_relations.specs.KnownViews.{known_value}
use Rattle.std.proofs.Common.{◌≡◌, ◌∙◌, sym, subst}
use Rattle.std.proofs.lemmas.List.{get_or_default}
use Rattle.number_relations.specs.Relations.{RelationValue}
use Rattle.number_relations.specs.Joins.{HaveOneDirection}
use Rattle.plan_relations.specs.MadeOf.{MayMake, relation_at}
use Rattle.plan_relations.proofs.BuildingLemmas.{none}
use Rattle.plan_relations.proofs.making.make.Goals as goal

pub join_step-requires-clause-direction : goal.join_step-requires-clause-direction
join_step-requires-clause-direction c =
    let may = subst (MayMake (known_value c.args.known) c.args.made.now) c.in-Joined.is c.requires in
    let first : relation_at c.args.made.now c.in-Joined.first ≡ c.index-made-first.result = get_or_default c.args.made.now c.in-Joined.first none c.index-made-first.result may.0 ∙ sym c.index-made-first.is in
    let second : relation_at c.args.made.now c.in-Joined.second ≡ c.index-made-second.result = get_or_default c.args.made.now c.in-Joined.second none c.index-made-second.result may.1 ∙ sym c.index-made-second.is in
    subst (λ (a : RelationValue). HaveOneDirection a c.index-made-second.result) first (subst (HaveOneDirection (relation_at c.args.made.now c.in-Joined.first)) second may.2.1)
