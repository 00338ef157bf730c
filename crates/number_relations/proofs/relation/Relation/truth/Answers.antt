use Rattle.std.proofs.Common.{List, map, sym, ap, ◌∙◌, subst}
use Rattle.std.specs.Rc.{rc_value}
use Rattle.num_system.specs.Sealed.{SystemValue}
use Rattle.number_relations.specs.Relations.{IsRelation, relation_over}
use Rattle.number_relations.specs.Comparisons.{IsTruth}
use Rattle.number_relations.proofs.TruthLemmas.{truth_relation, truth_decided}
use Rattle.number_relations.proofs.relation.Relation.truth.Goals as goal

pub from_parts-requires : goal.from_parts-requires
from_parts-requires c =
    let t = c.in_ok-tracked.tracked in
    subst (λ (ss : List SystemValue). IsRelation (relation_over t ss)) (sym (ap (map rc_value) c.new.ensures.items))
    (truth_relation c.args.holds t c.in_ok-tracked.ensures.names c.in_ok-tracked.ensures.sizes c.in_ok-tracked.ensures.canonical c.in_ok-tracked.ensures.language)

pub returns : goal.returns
returns c =
    let t = c.in_ok-tracked.tracked in
    subst (IsTruth c.args.holds) (sym (c.from_parts.ensures ∙ ap (λ (ss : List SystemValue). relation_over t ss) (ap (map rc_value) c.new.ensures.items)))
    (truth_decided c.args.holds t c.in_ok-tracked.ensures.names c.in_ok-tracked.ensures.sizes c.in_ok-tracked.ensures.canonical c.in_ok-tracked.ensures.language)
