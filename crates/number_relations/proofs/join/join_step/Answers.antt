use Rattle.std.proofs.Common.{◌≡◌, List, map, sym, ap, ◌∙◌, subst}
use Rattle.std.specs.Rc.{rc_value}
use Rattle.digit_tuple.specs.Deterministic.{Automaton}
use Rattle.product_op.specs.Tracks.{joint_sizes}
use Rattle.product_op.specs.Validity.{AreLanguages}
use Rattle.automaton_steps.specs.Makings.{DoesStep}
use Rattle.num_system.specs.Tracks.{languages_of}
use Rattle.num_system.proofs.LineLemmas.{handed_on}
use Rattle.number_relations.specs.Relations.{named_of, relation_over}
use Rattle.number_relations.specs.Joins.{joint_systems, relation_join_step}
use Rattle.number_relations.proofs.JoinLemmas.{join_is, joint_languages}
use Rattle.number_relations.proofs.JointSystems.{agree_on_sizes}
use Rattle.number_relations.proofs.StepsDone.{join_done, join_made, join_same, joins, step_refused}
use Rattle.number_relations.proofs.join.join_step.Goals as goal

pub joint_systems-requires : goal.joint_systems-requires
joint_systems-requires c = rw c.deref.ensures.value ((rw (c.names.ensures.value, c.names-2.ensures.value) at c.in_ok-names.ensures.joint).no_others)

pub join_step-requires-clause-agree : goal.join_step-requires-clause-agree
join_step-requires-clause-agree c =
    rw (c.tracked.ensures.value, c.tracked-2.ensures.value) (agree_on_sizes c.args.a.now c.args.b.now c.names.ensures.relation c.names-2.ensures.relation c.requires.agree)

pub join_step-requires-clause-languages : goal.join_step-requires-clause-languages
join_step-requires-clause-languages c among =
    let a = c.args.a.now in
    let b = c.args.b.now in
    let same : map rc_value c.in_ok-systems.systems.items ≡ joint_systems a b = rw (c.deref.ensures.value, c.in_ok-names.ensures.names, c.names.ensures.value, c.names-2.ensures.value) at c.in_ok-systems.ensures in
    let are : map rc_value c.in_ok-languages.languages.items ≡ languages_of (joint_systems a b) = (rw c.deref-2.ensures.value at c.in_ok-languages.ensures) ∙ ap languages_of same in
    rw (c.deref-3.ensures.value, c.tracked.ensures.value, c.tracked-2.ensures.value)
    (subst (λ (ls : List Automaton). AreLanguages (joint_sizes (named_of a) (named_of b)) ls) (sym are) (joint_languages a b c.names.ensures.relation c.names-2.ensures.relation c.requires.agree))

pub returns-in_err-joined : goal.returns-in_err-joined
returns-in_err-joined c =
    let a = c.args.a.now in
    let b = c.args.b.now in
    let old = c.args.steps.now in
    let new = c.join_step.new.steps in
    let fault = c.in_err-joined.field-0.0 in
    let systems = map rc_value c.in_ok-systems.systems.items in
    let languages = map rc_value c.in_ok-languages.languages.items in
    let same : systems ≡ joint_systems a b = rw (c.deref.ensures.value, c.in_ok-names.ensures.names, c.names.ensures.value, c.names-2.ensures.value) at c.in_ok-systems.ensures in
    let are : languages ≡ languages_of systems = rw c.deref-2.ensures.value at c.in_ok-languages.ensures in
    handed_on (λ r. DoesStep (relation_join_step c.args.op a b) old r new) c.from_residual-in_err-joined.result fault c.from_residual-in_err-joined.ensures.1
    (step_refused (joins c.args.op a b systems languages same are) (relation_join_step c.args.op a b) (join_same c.args.op a b systems languages same are) old new fault
    (rw (c.deref-3.ensures.value, c.tracked.ensures.value, c.tracked-2.ensures.value) at c.in_err-joined.ensures))

pub from_parts-requires : goal.from_parts-requires
from_parts-requires c =
    let a = c.args.a.now in
    let b = c.args.b.now in
    let systems = map rc_value c.in_ok-systems.systems.items in
    let languages = map rc_value c.in_ok-languages.languages.items in
    let same : systems ≡ joint_systems a b = rw (c.deref.ensures.value, c.in_ok-names.ensures.names, c.names.ensures.value, c.names-2.ensures.value) at c.in_ok-systems.ensures in
    let are : languages ≡ languages_of systems = rw c.deref-2.ensures.value at c.in_ok-languages.ensures in
    let does = rw (c.deref-3.ensures.value, c.tracked.ensures.value, c.tracked-2.ensures.value) at c.in_ok-joined.ensures in
    join_is a b c.names.ensures.relation c.names-2.ensures.relation c.requires.agree c.requires.direction c.args.op (relation_over c.in_ok-joined.joined systems) c.requires.bound
    (join_made c.args.op a b systems languages same are c.in_ok-joined.joined does.step.made_is)

pub returns : goal.returns
returns c =
    let a = c.args.a.now in
    let b = c.args.b.now in
    let systems = map rc_value c.in_ok-systems.systems.items in
    let languages = map rc_value c.in_ok-languages.languages.items in
    let same : systems ≡ joint_systems a b = rw (c.deref.ensures.value, c.in_ok-names.ensures.names, c.names.ensures.value, c.names-2.ensures.value) at c.in_ok-systems.ensures in
    let are : languages ≡ languages_of systems = rw c.deref-2.ensures.value at c.in_ok-languages.ensures in
    rw c.from_parts.ensures
    (join_done c.args.op a b systems languages same are c.in_ok-joined.joined c.args.steps.now c.join_step.new.steps (rw (c.deref-3.ensures.value, c.tracked.ensures.value, c.tracked-2.ensures.value) at c.in_ok-joined.ensures))
