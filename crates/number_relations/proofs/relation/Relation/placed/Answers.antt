use Rattle.std.proofs.Common.{map, sym, ap, ◌∙◌, subst}
use Rattle.std.specs.List.{All, Contains}
use Rattle.std.specs.Rc.{rc_value}
use Rattle.std.proofs.lemmas.List.{length-map}
use Rattle.pad_rename.specs.Substitution.{IsSubstitution}
use Rattle.num_system.specs.Tracks.{systems_under}
use Rattle.number_relations.specs.Placed.{IsPlaced, each_once}
use Rattle.number_relations.proofs.OnceLemmas.{once_others}
use Rattle.number_relations.proofs.PlacedLemmas.{once_names, placed_once, substitution}
use Rattle.number_relations.proofs.relation.Relation.placed.Goals as goal

pub placed_table-requires-clause-substitution : goal.placed_table-requires-clause-substitution
placed_table-requires-clause-substitution c =
    let under = c.args.under.now in
    let systems = map rc_value c.args.systems.now in
    subst (IsSubstitution c.args.dfa.now.sizes under) (sym c.in_ok-names.ensures)
    (substitution c.args.dfa.now systems under (each_once under) (once_names under) (c.requires.count ∙ sym (length-map c.args.systems.now rc_value)) c.requires.agree c.requires.closed.sizes)

pub systems_for-requires-clause-there : goal.systems_for-requires-clause-there
systems_for-requires-clause-there c =
    subst (All (Contains c.args.under.now)) (sym (c.names.ensures.value ∙ c.in_ok-tracked.ensures.names ∙ c.in_ok-names.ensures)) (once_others c.args.under.now)

pub from_parts-requires : goal.from_parts-requires
from_parts-requires c =
    let under = c.args.under.now in
    let systems = map rc_value c.args.systems.now in
    let made = placed_once c.args.dfa.now systems under c.in_ok-names.names.items c.in_ok-tracked.tracked (map rc_value c.in_ok-kept.kept.items) c.in_ok-names.ensures
    (c.requires.count ∙ sym (length-map c.args.systems.now rc_value)) c.requires.agree c.requires.direction c.are_sealed.ensures c.requires.closed
    c.in_ok-tracked.ensures.names c.in_ok-tracked.ensures.sizes c.in_ok-tracked.ensures.canonical c.in_ok-tracked.ensures.language
    (c.in_ok-kept.ensures ∙ ap (systems_under under systems) (c.names.ensures.value ∙ c.in_ok-tracked.ensures.names)) in
    made.relation

pub returns : goal.returns
returns c =
    let under = c.args.under.now in
    let systems = map rc_value c.args.systems.now in
    subst (IsPlaced c.args.dfa.now systems under) (sym c.from_parts.ensures)
    (placed_once c.args.dfa.now systems under c.in_ok-names.names.items c.in_ok-tracked.tracked (map rc_value c.in_ok-kept.kept.items) c.in_ok-names.ensures
    (c.requires.count ∙ sym (length-map c.args.systems.now rc_value)) c.requires.agree c.requires.direction c.are_sealed.ensures c.requires.closed
    c.in_ok-tracked.ensures.names c.in_ok-tracked.ensures.sizes c.in_ok-tracked.ensures.canonical c.in_ok-tracked.ensures.language
    (c.in_ok-kept.ensures ∙ ap (systems_under under systems) (c.names.ensures.value ∙ c.in_ok-tracked.ensures.names)))
