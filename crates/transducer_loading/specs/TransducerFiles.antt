-- The file of a transducer: its text, in the folder of transducers.
use Rattle.std.specs.Prelude.{◌≡◌, ℕ, ◌<◌, ◌≤◌, List, length, None, Some, Result, Ok, Err, MatchResult, ⊤}
use Rattle.wal_outside.specs.Files.{Files}
use Rattle.wal_outside.specs.Views.{StoreView}
use Rattle.wal_outside.specs.declared.folder.Folder.{Folder}
use Rattle.wal_outside.specs.declared.folder.Folder.TheVariants.{Transducers}
use Rattle.wal_outside.specs.declared.store.TheConstants.{TEXT_LIMIT}
use Rattle.transducer_reading.specs.Transducers.{Transducer}
use Rattle.transducer_reading.specs.Reading.{transducer_of}
use Rattle.dfa_loading.specs.declared.fault.FileFlaw.{FileFlaw}
use Rattle.dfa_loading.specs.declared.fault.FileFlaw.TheVariants.{Line, TooLong}
use Rattle.dfa_loading.specs.declared.fault.LoadFault.{LoadFault}
use Rattle.dfa_loading.specs.declared.fault.LoadFault.TheVariants as faults
use Rattle.dfa_loading.specs.Places.{AreReported, HasRead}

-- the text has this flaw: it is too long to be read, or breaks the format first in this line
abbrev pub HasFlaw : List ℕ → FileFlaw → Type 0
HasFlaw text (Line line) = (length text ≤ TEXT_LIMIT) × (transducer_of text ≡ Err line)
HasFlaw text TooLong = TEXT_LIMIT < length text

-- a transducer is read under this name in this folder
abbrev pub IsTransducerAt : List ℕ → Folder → List ℕ → Type 0
IsTransducerAt name folder at = (folder ≡ Transducers) × (at ≡ name)

-- the text of the transducer was read and breaks the format, or memory ran out
abbrev pub IsNoTransducer : List ℕ → List ℕ → LoadFault → Type 0
IsNoTransducer name text (faults.File folder at flaw) = IsTransducerAt name folder at × HasFlaw text flaw
IsNoTransducer name text faults.Memory = ⊤
IsNoTransducer name text (faults.Unknown folder at) = ⊥
IsNoTransducer name text (faults.Store folder at) = ⊥

-- the text of the transducer is short enough, and gives it
pub record IsTransducerIn (files : Files) (name : List ℕ) (t : Transducer) : Type 0 where
  pub text : List ℕ
  pub there : files Transducers name ≡ Some text
  pub short : length text ≤ TEXT_LIMIT
  pub gives : transducer_of text ≡ Ok t

-- no transducer is under the name, or a text with a flaw
abbrev pub RefusesTransducer : Files → List ℕ → LoadFault → Type 0
RefusesTransducer files name (faults.Unknown folder at) = IsTransducerAt name folder at × (files Transducers name ≡ None)
RefusesTransducer files name (faults.File folder at flaw) = IsTransducerAt name folder at × ((text : List ℕ) × (files Transducers name ≡ Some text) × HasFlaw text flaw)
RefusesTransducer files name (faults.Store folder at) = ⊥
RefusesTransducer files name faults.Memory = ⊥

-- why the transducer is not loaded: by what is there, or because the store failed, or because memory ran out
abbrev pub FailsTransducer : Files → List ℕ → LoadFault → Type 0
FailsTransducer files name (faults.Unknown folder at) = RefusesTransducer files name (faults.Unknown folder at)
FailsTransducer files name (faults.File folder at flaw) = RefusesTransducer files name (faults.File folder at flaw)
FailsTransducer files name (faults.Store folder at) = IsTransducerAt name folder at
FailsTransducer files name faults.Memory = ⊤

-- the transducer was loaded, or not, by some files, which are the store's where it reports them
pub record IsLoadedTransducer (name : List ℕ) (old : StoreView) (result : Result Transducer LoadFault) (new : StoreView) : Type 0 where
  pub found : Files
  pub reported : AreReported old found
  pub gives : MatchResult result (IsTransducerIn found name) (FailsTransducer found name)
  pub has_read : HasRead old result new

-- what files have under a name among transducers: the transducer, or why there is none
abbrev pub AnswersTransducer : Files → List ℕ → Result Transducer LoadFault → Type 0
AnswersTransducer files name answer = MatchResult answer (IsTransducerIn files name) (RefusesTransducer files name)

-- one file has one transducer, or one refusal, and not both
abbrev pub TransducerFilesHaveOneAnswer : Type 0
TransducerFilesHaveOneAnswer = (files : Files) (name : List ℕ) (answer other : Result Transducer LoadFault) → AnswersTransducer files name answer → AnswersTransducer files name other → answer ≡ other
