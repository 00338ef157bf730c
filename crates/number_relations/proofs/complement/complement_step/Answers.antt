use Rattle.std.proofs.Common.{◌≡◌, List, map, sym, ap, ◌∙◌, subst}
use Rattle.std.specs.Rc.{rc_value}
use Rattle.std.proofs.lemmas.List.Elements.{All-contains_itself}
use Rattle.digit_tuple.specs.Deterministic.{Automaton}
use Rattle.product_op.specs.Validity.{AreLanguages}
use Rattle.automaton_steps.specs.Makings.{DoesStep}
use Rattle.num_system.specs.Tracks.{languages_of}
use Rattle.num_system.proofs.LineLemmas.{handed_on}
use Rattle.num_system.proofs.UnderNames.{under_own}
use Rattle.number_relations.specs.Relations.{relation_over}
use Rattle.number_relations.specs.Complements.{relation_complement_step}
use Rattle.number_relations.proofs.ComplementLemmas.{complement_is, own_languages}
use Rattle.number_relations.proofs.StepsDone.{complement_done, complement_made, complement_same, complements, step_refused}
use Rattle.number_relations.proofs.complement.complement_step.Goals as goal

pub systems_for-requires-clause-there : goal.systems_for-requires-clause-there
systems_for-requires-clause-there c = All-contains_itself c.names-names.result.now

pub complement_step-requires : goal.complement_step-requires
complement_step-requires c =
    let a = c.args.argument.now in
    let is_a = c.names-names.ensures.relation in
    let same : map rc_value c.in_ok-systems.systems.items ≡ a.systems = (rw (c.systems.ensures.value, c.names-names.ensures.value) at c.in_ok-systems.ensures) ∙ under_own a.names a.systems is_a.tracked.distinct is_a.count in
    let are : map rc_value c.in_ok-languages.languages.items ≡ languages_of a.systems = (rw c.deref.ensures.value at c.in_ok-languages.ensures) ∙ ap languages_of same in
    record { languages = rw (c.deref-2.ensures.value, c.tracked.ensures.value) (subst (λ (ls : List Automaton). AreLanguages a.automaton.sizes ls) (sym are) (own_languages a is_a)) }

pub returns-in_err-complement : goal.returns-in_err-complement
returns-in_err-complement c =
    let a = c.args.argument.now in
    let is_a = c.names-names.ensures.relation in
    let old = c.args.steps.now in
    let new = c.complement_step.new.steps in
    let fault = c.in_err-complement.field-0.0 in
    let systems = map rc_value c.in_ok-systems.systems.items in
    let languages = map rc_value c.in_ok-languages.languages.items in
    let same : systems ≡ a.systems = (rw (c.systems.ensures.value, c.names-names.ensures.value) at c.in_ok-systems.ensures) ∙ under_own a.names a.systems is_a.tracked.distinct is_a.count in
    let are : languages ≡ languages_of systems = rw c.deref.ensures.value at c.in_ok-languages.ensures in
    handed_on (λ r. DoesStep (relation_complement_step a) old r new) c.from_residual-in_err-complement.result fault c.from_residual-in_err-complement.ensures.1
    (step_refused (complements a systems languages same are) (relation_complement_step a) (complement_same a systems languages same are) old new fault
    (rw (c.deref-2.ensures.value, c.tracked.ensures.value) at c.in_err-complement.ensures))

pub from_parts-requires : goal.from_parts-requires
from_parts-requires c =
    let a = c.args.argument.now in
    let is_a = c.names-names.ensures.relation in
    let systems = map rc_value c.in_ok-systems.systems.items in
    let same : systems ≡ a.systems = (rw (c.systems.ensures.value, c.names-names.ensures.value) at c.in_ok-systems.ensures) ∙ under_own a.names a.systems is_a.tracked.distinct is_a.count in
    let does = rw (c.deref-2.ensures.value, c.tracked.ensures.value) at c.in_ok-complement.ensures in
    complement_is a is_a (relation_over c.in_ok-complement.complement systems)
    (complement_made a systems (map rc_value c.in_ok-languages.languages.items) same (rw c.deref.ensures.value at c.in_ok-languages.ensures) c.in_ok-complement.complement does.step.made_is)

pub returns : goal.returns
returns c =
    let a = c.args.argument.now in
    let is_a = c.names-names.ensures.relation in
    let systems = map rc_value c.in_ok-systems.systems.items in
    let same : systems ≡ a.systems = (rw (c.systems.ensures.value, c.names-names.ensures.value) at c.in_ok-systems.ensures) ∙ under_own a.names a.systems is_a.tracked.distinct is_a.count in
    rw c.from_parts.ensures
    (complement_done a systems (map rc_value c.in_ok-languages.languages.items) same (rw c.deref.ensures.value at c.in_ok-languages.ensures) c.in_ok-complement.complement c.args.steps.now c.complement_step.new.steps
    (rw (c.deref-2.ensures.value, c.tracked.ensures.value) at c.in_ok-complement.ensures))
