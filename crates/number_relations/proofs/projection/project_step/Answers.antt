use Rattle.std.proofs.Common.{◌≡◌, map}
use Rattle.std.specs.Rc.{rc_value}
use Rattle.project_close.proofs.ProjectionLemmas.{names_without-there}
use Rattle.automaton_steps.specs.Makings.{DoesStep}
use Rattle.num_system.specs.Tracks.{direction_of}
use Rattle.num_system.proofs.LineLemmas.{handed_on}
use Rattle.number_relations.specs.Relations.{relation_over}
use Rattle.number_relations.specs.Projections.{relation_project_step, staying_systems}
use Rattle.number_relations.proofs.ProjectLemmas.{projection_is}
use Rattle.number_relations.proofs.StepsDone.{project_done, project_made, project_same, projects, step_refused}
use Rattle.number_relations.proofs.projection.project_step.Goals as goal

pub systems_for-requires-clause-there : goal.systems_for-requires-clause-there
systems_for-requires-clause-there c =
    rw (c.deref.ensures.value, c.in_ok-names.ensures, c.names.ensures.value, c.names-2.ensures.value) (names_without-there c.args.argument.now.names c.args.track.now)

pub returns-in_err-projected : goal.returns-in_err-projected
returns-in_err-projected c =
    let a = c.args.argument.now in
    let track = c.args.track.now in
    let old = c.args.steps.now in
    let new = c.project_step.new.steps in
    let fault = c.in_err-projected.field-0.0 in
    let systems = map rc_value c.in_ok-systems.systems.items in
    let same : systems ≡ staying_systems a track = rw (c.deref.ensures.value, c.in_ok-names.ensures, c.names.ensures.value, c.names-2.ensures.value, c.systems.ensures.value) at c.in_ok-systems.ensures in
    let direction : c.direction_of-direction.result ≡ direction_of a.systems = rw c.systems-2.ensures.value at c.direction_of-direction.ensures in
    handed_on (λ r. DoesStep (relation_project_step track a) old r new) c.from_residual-in_err-projected.result fault c.from_residual-in_err-projected.ensures.1
    (step_refused (projects track a c.direction_of-direction.result systems direction same) (relation_project_step track a) (project_same track a c.direction_of-direction.result systems direction same) old new fault
    (rw c.tracked.ensures.value at c.in_err-projected.ensures))

pub from_parts-requires : goal.from_parts-requires
from_parts-requires c =
    let a = c.args.argument.now in
    let track = c.args.track.now in
    let systems = map rc_value c.in_ok-systems.systems.items in
    let same : systems ≡ staying_systems a track = rw (c.deref.ensures.value, c.in_ok-names.ensures, c.names.ensures.value, c.names-2.ensures.value, c.systems.ensures.value) at c.in_ok-systems.ensures in
    let direction : c.direction_of-direction.result ≡ direction_of a.systems = rw c.systems-2.ensures.value at c.direction_of-direction.ensures in
    let does = rw c.tracked.ensures.value at c.in_ok-projected.ensures in
    projection_is track a (relation_over c.in_ok-projected.projected systems) c.names.ensures.relation
    (project_made track a c.direction_of-direction.result systems direction same c.in_ok-projected.projected does.step.made_is)

pub returns : goal.returns
returns c =
    let a = c.args.argument.now in
    let track = c.args.track.now in
    let systems = map rc_value c.in_ok-systems.systems.items in
    let same : systems ≡ staying_systems a track = rw (c.deref.ensures.value, c.in_ok-names.ensures, c.names.ensures.value, c.names-2.ensures.value, c.systems.ensures.value) at c.in_ok-systems.ensures in
    let direction : c.direction_of-direction.result ≡ direction_of a.systems = rw c.systems-2.ensures.value at c.direction_of-direction.ensures in
    rw c.from_parts.ensures
    (project_done track a c.direction_of-direction.result systems direction same c.in_ok-projected.projected c.args.steps.now c.project_step.new.steps (rw c.tracked.ensures.value at c.in_ok-projected.ensures))
