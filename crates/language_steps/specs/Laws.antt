-- What holds of the steps of language commands.
use Rattle.std.specs.Prelude.{ℕ, List}
use Rattle.digit_tuple.specs.declared.step_fault.StepFault.TheVariants.{Memory}
use Rattle.automaton_steps.specs.OneAnswers.{HasOneAnswer}
use Rattle.dfa_loading.specs.declared.loaded.Loaded.{Loaded}
use Rattle.language_steps.specs.LanguageSteps.{DoesLanguage}
use Rattle.language_steps.specs.declared.op.LanguageOp.{LanguageOp}

-- they have one answer
abbrev pub LanguagesHaveOneOutcome : Type 0
LanguagesHaveOneOutcome = (op : LanguageOp) (names : List (List ℕ)) (tables : List Loaded) → HasOneAnswer Memory (DoesLanguage op names tables)
