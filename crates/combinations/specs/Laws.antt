-- Laws of the words that relations make together.
use Rattle.std.specs.Prelude.{◌≡◌, ℕ, ℤ, List, Option, Some}
use Rattle.std.specs.List.{All}
use Rattle.digit_tuple.specs.declared.step_fault.StepFault.TheVariants.{Memory}
use Rattle.num_system.specs.Sealed.{SystemValue}
use Rattle.automaton_steps.specs.OneAnswers.{HasOneAnswer}
use Rattle.number_relations.specs.Relations.{IsRelation}
use Rattle.combinations.specs.Parts.{PartValue}
use Rattle.combinations.specs.Combined.{IsCombined}
use Rattle.combinations.specs.CombineSteps.{DoesCombine}
use Rattle.combinations.specs.declared.combine_fault.CombineFault.TheVariants.{Step}

-- relations have a combined letter at each tuple of numbers, where there is one for the rest
abbrev pub TuplesHaveCombinedLetters : Type 0
TuplesHaveCombinedLetters = (rest : ℤ) (parts : List PartValue) (ns : List ℕ) → All (λ (part : PartValue). IsRelation part.relation) parts → (letter : ℤ) × IsCombined (Some rest) parts ns letter

-- and one at most
abbrev pub TuplesHaveOneCombinedLetter : Type 0
TuplesHaveOneCombinedLetter = (rest : Option ℤ) (parts : List PartValue) (ns : List ℕ) (b c : ℤ) → IsCombined rest parts ns b → IsCombined rest parts ns c → b ≡ c

-- relations make one word, or are refused by one fault
abbrev pub CombinationsHaveOneOutcome : Type 0
CombinationsHaveOneOutcome = (rest : Option ℤ) (parts : List PartValue) (systems : List SystemValue) → HasOneAnswer (Step Memory) (DoesCombine rest parts systems)
