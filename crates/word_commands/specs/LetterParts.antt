-- The relations of letters. Nobody has to believe this: it serves the contracts of functions.
use Rattle.std.specs.Prelude.{◌≡◌, ◌↔◌, ℕ, ◌≤◌, ℤ, List, [], ◌∷◌, ◌++◌, Ok, Err}
use Rattle.std.specs.List.{AllByRecursion}
use Rattle.digit_tuple.specs.Steps.{StepLog}
use Rattle.digit_tuple.specs.declared.step_fault.StepFault.{StepFault}
use Rattle.formula_parse.specs.Tokens.{Name}
use Rattle.formula_truth.specs.Truth.{Holds}
use Rattle.plan_relations.specs.Libraries.{LibraryValue, meanings_of}
use Rattle.formula_build.specs.Solutions.{BuildsFormula, direction_named}
use Rattle.number_relations.specs.Relations.{RelationValue, IsRelation, RelationHolds}
use Rattle.num_system.specs.Sealed.{SystemValue}
use Rattle.morph_words.specs.Rules.{Rules}
use Rattle.word_output.specs.Words.{WordValue}
use Rattle.combinations.specs.Parts.{PartValue}
use Rattle.word_images.specs.ImageFormula.{image_formula}
use Rattle.word_commands.specs.ImageSteps.{letter_plan}
use Rattle.word_commands.specs.LetterSettings.{IsSetting, library_in}
use Rattle.word_commands.specs.declared.setting.Setting.{Setting}

-- the setting is that of some word over one system, which has the direction of its name
pub record IsUsable (t : Setting) (s : Name) (k : ℕ) : Type 0 where
  pub rules : Rules
  pub word : WordValue
  pub setting : IsSetting rules word s k t
  pub system : SystemValue
  pub systems : word.systems ≡ system ∷ []
  pub direction : system.direction ≡ direction_named s
  pub some : 1 ≤ k
  pub few : k ≤ 40

-- the relation has one track, over the system, and holds of the numbers for which the formula of the letter is true
pub record IsLetterRelation (t : Setting) (s : Name) (k : ℕ) (b : ℤ) (r : RelationValue) : Type 0 where
  pub relation : IsRelation r
  pub system : SystemValue
  pub system_is : (library_in t).systems ≡ record { name = s; system = system } ∷ []
  pub systems : r.systems ≡ system ∷ []
  pub holds : (n : ℕ) → RelationHolds r (n ∷ []) ↔ Holds (meanings_of (library_in t)) (image_formula s k b) (λ name. n)

-- each part is that of its letter
abbrev pub AreLetterParts : Setting → Name → ℕ → List PartValue → Type 0
AreLetterParts t s k parts = AllByRecursion (λ (part : PartValue). IsLetterRelation t s k part.value part.relation) parts

-- the formulas of these letters were built one after another, and gave these relations
abbrev pub AreBuilt : LibraryValue → Name → ℕ → StepLog → List ℤ → List PartValue → StepLog → Type 0
AreBuilt l s k old [] [] new = new ≡ old
AreBuilt l s k old [] (part ∷ parts) new = ⊥
AreBuilt l s k old (b ∷ bs) [] new = ⊥
AreBuilt l s k old (b ∷ bs) (part ∷ parts) new = (part.value ≡ b) × ((middle : StepLog) × BuildsFormula l (letter_plan s k b) old (Ok part.relation) middle × AreBuilt l s k middle bs parts new)

-- those before one letter were built, and the steps of its formula stop at one that passes a limit
pub record IsLetterStopped (l : LibraryValue) (s : Name) (k : ℕ) (old : StepLog) (letters : List ℤ) (fault : StepFault) (new : StepLog) : Type 0 where
  pub prefix : List ℤ
  pub here : ℤ
  pub rest : List ℤ
  pub letters_are : letters ≡ prefix ++ here ∷ rest
  pub parts : List PartValue
  pub middle : StepLog
  pub built : AreBuilt l s k old prefix parts middle
  pub stopped : BuildsFormula l (letter_plan s k here) middle (Err fault) new
