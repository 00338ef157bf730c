-- The steps by which the image of a word is made.
use Rattle.std.specs.Prelude.{◌≡◌, ◌⊎◌, ℕ, ℤ, List, [], ◌∷◌, None, Result, Ok, Err}
use Rattle.digit_tuple.specs.StepResults.{Then}
use Rattle.digit_tuple.specs.Steps.{StepLog}
use Rattle.digit_tuple.specs.declared.step_fault.StepFault.{StepFault}
use Rattle.digit_tuple.specs.declared.step_fault.StepFault.TheVariants.{Memory}
use Rattle.automaton_steps.specs.Makings.{DoesStep, Gives, WithSome}
use Rattle.morph_words.specs.Rules.{Rules}
use Rattle.morph_words.specs.Uniform.{IsImageLength, IsLeast, IsLengthRefused, HasLength}
use Rattle.word_output.specs.Words.{WordValue}
use Rattle.formula_parse.specs.Tokens.{Name}
use Rattle.plan_relations.specs.Libraries.{LibraryValue}
use Rattle.formula_build.specs.Solutions.{BuildsFormula, formula_plan}
use Rattle.term_plans.specs.Plans.{Made}
use Rattle.combinations.specs.Parts.{PartValue}
use Rattle.combinations.specs.CombineSteps.{combine_step}
use Rattle.word_images.specs.ImageFormula.{image_formula}
use Rattle.word_commands.specs.RecodedWords.{IsImageLibrary, image_headers}
use Rattle.word_images.specs.ImageWords.{AreOutputs, IsMapped, IsMissing}
use Rattle.word_commands.specs.declared.image_fault.ImageFault.{ImageFault}
use Rattle.word_commands.specs.declared.image_fault.ImageFault.TheVariants.{Morphism, Missing, Step}

-- the change of the formula of a letter
abbrev pub letter_plan : Name → ℕ → ℤ → Made
letter_plan s k b = formula_plan (image_headers s k) (image_formula s k b)

-- the steps of the formulas of these letters, one after another, make the relation of each
abbrev pub DoesLetters : LibraryValue → Name → ℕ → List ℤ → StepLog → Result (List PartValue) StepFault → StepLog → Type 0
DoesLetters l s k [] = Gives []
DoesLetters l s k (b ∷ bs) =
    Then (BuildsFormula l (letter_plan s k b)) (λ relation.
    Then (DoesLetters l s k bs) (λ parts. Gives {Made = List PartValue} (record { relation = relation; value = b } ∷ parts)))

-- the word is mapped: first the steps of the letters of the image, over the words of all positions, and then one that combines their relations,
-- with no letter where none of them holds
abbrev pub DoesMapped : Rules → WordValue → Name → StepLog → Result WordValue StepFault → StepLog → Type 0
DoesMapped rules word s old result new =
    (k : ℕ) × IsMapped rules word k
    × WithSome (IsImageLibrary rules word s k) (λ l.
    WithSome (AreOutputs rules word) (λ letters.
    Then (DoesLetters l s k letters) (λ parts. DoesStep (combine_step None parts word.systems)))) old result new

-- all images have one length that is allowed, and this is the least letter of the word without a rule
pub record IsLetterMissing (rules : Rules) (word : WordValue) (letter : ℤ) : Type 0 where
  pub k : ℕ
  pub length_is : HasLength IsImageLength rules k
  pub missing : IsLeast (IsMissing rules word) letter

-- the steps are done, or stopped at the first that passes a limit, or memory runs out; or there is no image, and no step is made
abbrev pub DoesImage : Rules → WordValue → Name → StepLog → Result WordValue ImageFault → StepLog → Type 0
DoesImage rules word s old (Ok image) new = DoesMapped rules word s old (Ok image) new
DoesImage rules word s old (Err (Morphism kind)) new = IsLengthRefused IsImageLength rules kind × (new ≡ old)
DoesImage rules word s old (Err (Missing letter)) new = IsLetterMissing rules word letter × (new ≡ old)
DoesImage rules word s old (Err (Step fault)) new = (fault ≡ Memory) ⊎ DoesMapped rules word s old (Err fault) new
