-- That images have one outcome. Nobody has to believe this: it serves the law of commands.
use Rattle.digit_tuple.specs.declared.step_fault.StepFault.TheVariants.{Memory}
use Rattle.automaton_steps.specs.OneAnswers.{HasOneAnswer}
use Rattle.morph_words.specs.Rules.{Rules, IsMorphism}
use Rattle.word_output.specs.Words.{IsWordValue, WordValue}
use Rattle.formula_parse.specs.Tokens.{Name}
use Rattle.word_commands.specs.ImageSteps.{DoesImage}
use Rattle.word_commands.specs.declared.image_fault.ImageFault.TheVariants.{Step}

-- one word is made by the same steps, or it is refused by one fault, unless memory runs out
abbrev pub ImagesHaveOneOutcome : Type 0
ImagesHaveOneOutcome = (rules : Rules) (word : WordValue) (s : Name) → IsMorphism rules → IsWordValue word → HasOneAnswer (Step Memory) (DoesImage rules word s)
