-- The steps that make the automaton of an expression over numeration systems.
use Rattle.std.specs.Prelude.{ℤ, List, Result}
use Rattle.digit_tuple.specs.Deterministic.{Automaton}
use Rattle.digit_tuple.specs.StepResults.{Then}
use Rattle.digit_tuple.specs.Steps.{StepLog}
use Rattle.digit_tuple.specs.declared.direction.Direction.{Direction}
use Rattle.digit_tuple.specs.declared.step_fault.StepFault.{StepFault}
use Rattle.minimise.specs.Tracked.{NamedAutomaton}
use Rattle.regex_build.specs.Expression.{Expression}
use Rattle.automaton_steps.specs.Makings.{DoesStep}
use Rattle.automaton_steps.specs.Numbered.{numbered}
use Rattle.automaton_steps.specs.PadSteps.{pad_step}
use Rattle.automaton_steps.specs.ValiditySteps.{valid_step}
use Rattle.reg_steps.specs.RegexSteps.{regex_step}

-- the steps regex, pad and valid, over the languages of the tracks
abbrev pub DoesRelation : Direction → List Automaton → List (List ℤ) → Expression (List ℤ) → StepLog → Result NamedAutomaton StepFault → StepLog → Type 0
DoesRelation direction languages sets expression =
    Then (DoesStep (regex_step sets expression)) (λ matches. Then (DoesStep (pad_step direction matches)) (λ closed. DoesStep (valid_step languages (numbered closed))))
