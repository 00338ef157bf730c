-- The steps of an expression over tracks have one answer.
use Rattle.std.proofs.Common.{ℤ, List}
use Rattle.digit_tuple.specs.declared.step_fault.StepFault.TheVariants.{Memory}
use Rattle.automaton_steps.specs.Makings.{DoesStep, Gives}
use Rattle.automaton_steps.specs.Numbered.{numbered}
use Rattle.automaton_steps.specs.OneAnswers.{HasOneAnswer}
use Rattle.automaton_steps.proofs.ThenAnswers.{gives_one, some_one, then_one}
use Rattle.regex_build.specs.Expression.{Expression}
use Rattle.reg_steps.specs.RegexSteps.{regex_step}
use Rattle.reg_steps.specs.RelationSteps.{DoesRelation}
use Rattle.reg_steps.specs.Relations.{AreSystemLanguages}
use Rattle.reg_steps.proofs.OneLanguages.{one_list_of_languages}
use Rattle.reg_steps.proofs.OneRegex.{regex_one}
use Rattle.reg_steps.proofs.OneRelation.{relation_one}
use Rattle.definitions.specs.Tracks.{systems_of, Tracks, OverSets, OverSystems, letter_sets}
use Rattle.language_commands.specs.TrackSteps.{DoesExpression}

pub expression_one : (tracks : Tracks) (e : Expression (List ℤ)) → HasOneAnswer Memory (DoesExpression tracks e)
expression_one (OverSets sets) e = then_one Memory (DoesStep (regex_step sets e)) (λ automaton. Gives (numbered automaton)) (regex_one sets e) (λ automaton. gives_one (numbered automaton))
expression_one (OverSystems direction named) e =
    some_one (AreSystemLanguages direction (systems_of named)) (λ languages. DoesRelation direction languages (letter_sets (OverSystems direction named)) e)
    (one_list_of_languages direction (systems_of named)) (λ languages. relation_one direction languages (letter_sets (OverSystems direction named)) e)
