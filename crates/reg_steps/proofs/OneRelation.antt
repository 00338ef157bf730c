-- The steps over numeration systems have one answer.
use Rattle.digit_tuple.specs.StepResults.{Then}
use Rattle.digit_tuple.specs.declared.step_fault.StepFault.TheVariants.{Memory}
use Rattle.automaton_steps.specs.Makings.{DoesStep}
use Rattle.automaton_steps.specs.Numbered.{numbered}
use Rattle.automaton_steps.specs.PadSteps.{pad_step}
use Rattle.automaton_steps.specs.ValiditySteps.{valid_step}
use Rattle.automaton_steps.proofs.OneAnswers.{pad_one, valid_one}
use Rattle.automaton_steps.proofs.ThenAnswers.{then_one}
use Rattle.reg_steps.specs.Laws.{RelationHasOneAnswer}
use Rattle.reg_steps.specs.RegexSteps.{regex_step}
use Rattle.reg_steps.proofs.OneRegex.{regex_one}

pub relation_one : RelationHasOneAnswer
relation_one direction languages sets e =
    then_one Memory (DoesStep (regex_step sets e)) (λ matches. Then (DoesStep (pad_step direction matches)) (λ closed. DoesStep (valid_step languages (numbered closed)))) (regex_one sets e)
    (λ matches. then_one Memory (DoesStep (pad_step direction matches)) (λ closed. DoesStep (valid_step languages (numbered closed))) (pad_one direction matches) (λ closed. valid_one languages (numbered closed)))
