-- Each kind of step has one answer.
use Rattle.digit_tuple.specs.declared.direction.Direction.{Direction}
use Rattle.digit_tuple.specs.Deterministic.{letters_of}
use Rattle.number_order.proofs.OrderWidthLemmas.{IsEquivalence-order}
use Rattle.product_op.proofs.WidthLaws.{IsEquivalence-product}
use Rattle.validity.proofs.WidthLaws.{IsEquivalence-validity}
use Rattle.pad_rename.specs.StayingTracks.{staying_places}
use Rattle.pad_rename.proofs.WidthLaws.{IsEquivalence-padded}
use Rattle.project_close.proofs.WidthLaws.{IsEquivalence-projection}
use Rattle.automaton_steps.specs.JoinSteps.{join_step}
use Rattle.automaton_steps.specs.Laws.{ReadHasOneOutcome, ReverseHasOneOutcome, PadHasOneOutcome, ValidHasOneOutcome, JoinHasOneOutcome, ComplementHasOneOutcome, ProjectHasOneOutcome, OrderHasOneOutcome}
use Rattle.automaton_steps.specs.OrderSteps.{order_step}
use Rattle.automaton_steps.specs.PadSteps.{pad_step}
use Rattle.automaton_steps.specs.ProjectSteps.{project_step}
use Rattle.automaton_steps.specs.ReadSteps.{read_step}
use Rattle.automaton_steps.specs.ReverseSteps.{reverse_step}
use Rattle.automaton_steps.specs.ValiditySteps.{valid_step, complement_step}
use Rattle.automaton_steps.proofs.OneResults.{one_read, one_reversed, one_closure, one_on_tracks, one_join, one_projection, one_order}
use Rattle.automaton_steps.proofs.ReadSizes.{IsEquivalence-read}
use Rattle.automaton_steps.proofs.ReverseSizes.{IsEquivalence-reverse}
use Rattle.automaton_steps.proofs.StepAnswers.{step_one}

pub read_one : ReadHasOneOutcome
read_one n = step_one (read_step n) (IsEquivalence-read n) (one_read n)

pub reverse_one : ReverseHasOneOutcome
reverse_one d = step_one (reverse_step d) (IsEquivalence-reverse d) (one_reversed d)

pub pad_one : PadHasOneOutcome
pad_one direction d = step_one (pad_step direction d) (IsEquivalence-padded d direction) (one_closure direction d)

pub valid_one : ValidHasOneOutcome
valid_one languages a = step_one (valid_step languages a) (IsEquivalence-validity a languages) (one_on_tracks a _)

pub complement_one : ComplementHasOneOutcome
complement_one languages a = step_one (complement_step languages a) (IsEquivalence-validity a languages) (one_on_tracks a _)

pub join_one : JoinHasOneOutcome
join_one op languages a b = step_one (join_step op languages a b) (IsEquivalence-product op a b languages) (one_join op languages a b)

pub project_one : ProjectHasOneOutcome
project_one direction track a = step_one (project_step direction track a) (IsEquivalence-projection a.automaton (staying_places a track) direction) (one_projection direction track a)

pub order_one : OrderHasOneOutcome
order_one direction s d system is = step_one (order_step direction d) (IsEquivalence-order direction d) (λ made other. one_order direction s d made other system is)
