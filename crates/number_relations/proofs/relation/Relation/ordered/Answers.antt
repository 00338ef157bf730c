use Rattle.std.proofs.Common.{List, map, sym, ap, ◌∙◌, subst}
use Rattle.std.specs.List.{All, Contains}
use Rattle.std.specs.Rc.{rc_value}
use Rattle.num_system.specs.Sealed.{SystemValue}
use Rattle.num_system.specs.Tracks.{systems_under}
use Rattle.number_relations.specs.Placed.{IsOrdered}
use Rattle.number_relations.proofs.OrderedLemmas.{ordered_made, ordered_names}
use Rattle.number_relations.proofs.relation.Relation.ordered.Goals as goal

pub systems_for-requires-clause-there : goal.systems_for-requires-clause-there
systems_for-requires-clause-there c =
    let names = c.names-names.result.now in
    subst (All (Contains names)) (sym (c.names.ensures.value ∙ c.in_ok-tracked.ensures.names)) (ordered_names names).no_others

pub from_parts-requires : goal.from_parts-requires
from_parts-requires c =
    let r = c.args.self.now in
    let names = c.names-names.result.now in
    let made = ordered_made r names c.tracked.result.now c.in_ok-tracked.tracked (map rc_value c.in_ok-systems.systems.items) c.names-names.ensures.relation c.names-names.ensures.value c.tracked.ensures.value
    c.in_ok-tracked.ensures.names c.in_ok-tracked.ensures.sizes c.in_ok-tracked.ensures.canonical c.in_ok-tracked.ensures.language
    (c.in_ok-systems.ensures ∙ ap (λ (ss : List SystemValue). systems_under names ss c.names.result.now) c.systems.ensures.value ∙ ap (systems_under names r.systems) c.names.ensures.value) in
    made.relation

pub returns : goal.returns
returns c =
    let r = c.args.self.now in
    let names = c.names-names.result.now in
    subst (IsOrdered r) (sym c.from_parts.ensures)
    (ordered_made r names c.tracked.result.now c.in_ok-tracked.tracked (map rc_value c.in_ok-systems.systems.items) c.names-names.ensures.relation c.names-names.ensures.value c.tracked.ensures.value
    c.in_ok-tracked.ensures.names c.in_ok-tracked.ensures.sizes c.in_ok-tracked.ensures.canonical c.in_ok-tracked.ensures.language
    (c.in_ok-systems.ensures ∙ ap (λ (ss : List SystemValue). systems_under names ss c.names.result.now) c.systems.ensures.value ∙ ap (systems_under names r.systems) c.names.ensures.value))
