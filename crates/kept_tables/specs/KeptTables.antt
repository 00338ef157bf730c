-- Relations and words that the steps of tables made, and what they were made of.
use Rattle.std.specs.Prelude.{◌≡◌, ◌⊎◌, ℕ, ◌+◌, ◌≤◌, List, drop, length, map, Result, Ok, Err}
use Rattle.std.specs.List.{AllByRecursion}
use Rattle.std.specs.Rc.{rc_value}
use Rattle.digit_tuple.specs.Steps.{StepLog, with_lines}
use Rattle.digit_tuple.specs.declared.step_fault.StepFault.{StepFault}
use Rattle.digit_tuple.specs.declared.step_fault.StepFault.TheVariants.{Memory}
use Rattle.dfa_reading.specs.Listed.{Listed}
use Rattle.dfa_reading.specs.Reading.{relation_of}
use Rattle.dfa_reading.specs.WordFiles.{word_of}
use Rattle.num_system.specs.Sealed.{SystemValue}
use Rattle.number_relations.specs.Relations.{RelationValue}
use Rattle.word_output.specs.WordReadings.{DoesWord}
use Rattle.word_output.specs.Words.{WordValue}
use Rattle.definitions.specs.TableSteps.{DoesTable}
use Rattle.kept_tables.specs.declared.source.Source.{Source}
use Rattle.kept_tables.specs.declared.kept_tables.KeptRelation.{KeptRelation}
use Rattle.kept_tables.specs.declared.kept_tables.KeptWord.{KeptWord}

-- this was made of the text, over these systems, under this limit
pub record IsMadeOf (source : Source) (text : List ℕ) (systems : List SystemValue) (limit : ℕ) : Type 0 where
  pub text_is : source.text ≡ text
  pub systems_are : map rc_value source.systems.items ≡ systems
  pub limit_is : source.limit ≡ limit

-- and by the steps after the first so many
pub record IsSourceOf (text : List ℕ) (systems : List SystemValue) (steps : StepLog) (count : ℕ) (source : Source) : Type 0 where
  pub made_of : IsMadeOf source text systems steps.limit
  pub lines_are : source.lines.items ≡ drop count steps.lines

-- After any steps under the limit, what the text lists makes this relation over the systems, with these lines for its steps.
abbrev pub IsRightRelation : Source → RelationValue → Type 0
IsRightRelation source r = (listed : Listed) (old : StepLog) → relation_of source.text ≡ Ok listed → old.limit ≡ source.limit
    → DoesTable (map rc_value source.systems.items) listed old (Ok r) (with_lines old source.lines.items)

-- and this word
abbrev pub IsRightWord : Source → WordValue → Type 0
IsRightWord source w = (listed : Listed) (old : StepLog) → word_of source.text ≡ Ok listed → old.limit ≡ source.limit
    → DoesWord (map rc_value source.systems.items) listed old (Ok w) (with_lines old source.lines.items)

-- at most 256 are kept, and each is right
pub record AreRight (relations : List KeptRelation) (words : List KeptWord) : Type 0 where
  pub few : length relations + length words ≤ 256
  pub relations_are : AllByRecursion (λ (k : KeptRelation). IsRightRelation k.source k.relation.value) relations
  pub words_are : AllByRecursion (λ (k : KeptWord). IsRightWord k.source k.word.value) words

-- the relation was made of this, rightly
pub record IsRelationOf (source : Source) (r : RelationValue) (text : List ℕ) (systems : List SystemValue) (limit : ℕ) : Type 0 where
  pub made_of : IsMadeOf source text systems limit
  pub is_right : IsRightRelation source r

pub record IsWordOf (source : Source) (w : WordValue) (text : List ℕ) (systems : List SystemValue) (limit : ℕ) : Type 0 where
  pub made_of : IsMadeOf source text systems limit
  pub is_right : IsRightWord source w

-- memory ran out, or one of the steps is the first to pass a limit
abbrev pub IsNotMade : {Made : Type 0} → (StepLog → Result Made StepFault → StepLog → Type 0) → StepLog → StepFault → StepLog → Type 0
IsNotMade does old fault new = (fault ≡ Memory) ⊎ does old (Err fault) new
