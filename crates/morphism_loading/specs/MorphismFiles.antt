-- The file of a morphism: its text, in the folder of morphisms.
use Rattle.std.specs.Prelude.{◌≡◌, ◌⊎◌, ℕ, ◌+◌, ◌<◌, ◌≤◌, List, length, take, count_by, None, Some, Result, Ok, Err, MatchResult, ⊤}
use Rattle.text_grammar.specs.Bytes.{is_line_end}
use Rattle.wal_outside.specs.Files.{Files}
use Rattle.wal_outside.specs.Views.{StoreView}
use Rattle.wal_outside.specs.declared.folder.Folder.{Folder}
use Rattle.wal_outside.specs.declared.folder.Folder.TheVariants.{Morphisms}
use Rattle.wal_outside.specs.declared.store.TheConstants.{TEXT_LIMIT}
use Rattle.morph_words.specs.declared.fault.RulesFault.TheVariants.{Syntax, Number}
use Rattle.morph_words.specs.Faults.{Parses}
use Rattle.morph_words.specs.Rules.{Rules}
use Rattle.dfa_loading.specs.declared.fault.FileFlaw.{FileFlaw}
use Rattle.dfa_loading.specs.declared.fault.FileFlaw.TheVariants.{Line, TooLong}
use Rattle.dfa_loading.specs.declared.fault.LoadFault.{LoadFault}
use Rattle.dfa_loading.specs.declared.fault.LoadFault.TheVariants as faults
use Rattle.dfa_loading.specs.Places.{AreReported, HasRead}

-- the line in which a byte of a text is, counted from one: the bytes are counted from 0
abbrev pub line_at : List ℕ → ℕ → ℕ
line_at text at = 1 + count_by is_line_end (take at text)

-- the text has no rules, and this is its first faulty byte
abbrev pub IsBrokenAt : List ℕ → ℕ → Type 0
IsBrokenAt text at = Parses text (Err (Syntax at)) ⊎ Parses text (Err (Number at))

-- the text has this flaw: it is too long to be read, or breaks the grammar of rules first in this line
abbrev pub HasFlaw : List ℕ → FileFlaw → Type 0
HasFlaw text (Line line) = (length text ≤ TEXT_LIMIT) × ((at : ℕ) × IsBrokenAt text at × (line ≡ line_at text at))
HasFlaw text TooLong = TEXT_LIMIT < length text

-- a morphism is read under this name in this folder
abbrev pub IsMorphismAt : List ℕ → Folder → List ℕ → Type 0
IsMorphismAt name folder at = (folder ≡ Morphisms) × (at ≡ name)

-- the text of the morphism was read and breaks the grammar, or memory ran out
abbrev pub IsNoMorphism : List ℕ → List ℕ → LoadFault → Type 0
IsNoMorphism name text (faults.File folder at flaw) = IsMorphismAt name folder at × HasFlaw text flaw
IsNoMorphism name text faults.Memory = ⊤
IsNoMorphism name text (faults.Unknown folder at) = ⊥
IsNoMorphism name text (faults.Store folder at) = ⊥

-- the text of the morphism is short enough, and has these rules
pub record IsMorphismIn (files : Files) (name : List ℕ) (rules : Rules) : Type 0 where
  pub text : List ℕ
  pub there : files Morphisms name ≡ Some text
  pub short : length text ≤ TEXT_LIMIT
  pub derives : Parses text (Ok rules)

-- no morphism is under the name, or a text with a flaw
abbrev pub RefusesMorphism : Files → List ℕ → LoadFault → Type 0
RefusesMorphism files name (faults.Unknown folder at) = IsMorphismAt name folder at × (files Morphisms name ≡ None)
RefusesMorphism files name (faults.File folder at flaw) = IsMorphismAt name folder at × ((text : List ℕ) × (files Morphisms name ≡ Some text) × HasFlaw text flaw)
RefusesMorphism files name (faults.Store folder at) = ⊥
RefusesMorphism files name faults.Memory = ⊥

-- why the morphism is not loaded: by what is there, or because the store failed, or because memory ran out
abbrev pub FailsMorphism : Files → List ℕ → LoadFault → Type 0
FailsMorphism files name (faults.Unknown folder at) = RefusesMorphism files name (faults.Unknown folder at)
FailsMorphism files name (faults.File folder at flaw) = RefusesMorphism files name (faults.File folder at flaw)
FailsMorphism files name (faults.Store folder at) = IsMorphismAt name folder at
FailsMorphism files name faults.Memory = ⊤

-- the morphism was loaded, or not, by some files, which are the store's where it reports them
pub record IsLoadedMorphism (name : List ℕ) (old : StoreView) (result : Result Rules LoadFault) (new : StoreView) : Type 0 where
  pub found : Files
  pub reported : AreReported old found
  pub gives : MatchResult result (IsMorphismIn found name) (FailsMorphism found name)
  pub has_read : HasRead old result new

-- what files have under a name among morphisms: the rules, or why there are none
abbrev pub AnswersMorphism : Files → List ℕ → Result Rules LoadFault → Type 0
AnswersMorphism files name answer = MatchResult answer (IsMorphismIn files name) (RefusesMorphism files name)

-- one file has one morphism, or one refusal, and not both
abbrev pub MorphismFilesHaveOneAnswer : Type 0
MorphismFilesHaveOneAnswer = (files : Files) (name : List ℕ) (answer other : Result Rules LoadFault) → AnswersMorphism files name answer → AnswersMorphism files name other → answer ≡ other
