-- The steps that make the automaton of an expression over tracks: `regex` alone over sets, and `regex`, `pad` and `valid` over systems.
use Rattle.std.specs.Prelude.{ℤ, List, Result}
use Rattle.digit_tuple.specs.StepResults.{Then}
use Rattle.digit_tuple.specs.Steps.{StepLog}
use Rattle.digit_tuple.specs.declared.step_fault.StepFault.{StepFault}
use Rattle.minimise.specs.Tracked.{NamedAutomaton}
use Rattle.automaton_steps.specs.Makings.{DoesStep, Gives, WithSome}
use Rattle.automaton_steps.specs.Numbered.{numbered}
use Rattle.regex_build.specs.Expression.{Expression}
use Rattle.reg_steps.specs.RegexSteps.{regex_step}
use Rattle.reg_steps.specs.RelationSteps.{DoesRelation}
use Rattle.reg_steps.specs.Relations.{AreSystemLanguages}
use Rattle.definitions.specs.Tracks.{systems_of, Tracks, OverSets, OverSystems, letter_sets}

-- the steps, over systems with the languages of these
abbrev pub DoesExpression : Tracks → Expression (List ℤ) → StepLog → Result NamedAutomaton StepFault → StepLog → Type 0
DoesExpression (OverSets sets) expression = Then (DoesStep (regex_step sets expression)) (λ automaton. Gives (numbered automaton))
DoesExpression (OverSystems direction named) expression =
    WithSome (AreSystemLanguages direction (systems_of named)) (λ languages. DoesRelation direction languages (letter_sets (OverSystems direction named)) expression)
