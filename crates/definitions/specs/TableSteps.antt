-- The steps that make the relation of what a file lists.
use Rattle.std.specs.Prelude.{◌≡◌, ◌⊎◌, ℕ, ◌+◌, ◌<◌, true, List, [], length, Result, Err, IsTrue}
use Rattle.digit_tuple.specs.Automaton.{Branching, IsBranchTable, letters_of}
use Rattle.digit_tuple.specs.Letters.{IsAlphabet, IsTooLarge}
use Rattle.digit_tuple.specs.Steps.{StepLog}
use Rattle.digit_tuple.specs.declared.step_fault.StepFault.{StepFault}
use Rattle.digit_tuple.specs.declared.step_fault.StepFault.TheVariants.{Letters}
use Rattle.automaton_steps.specs.Makings.{Gives, WithSome}
use Rattle.dfa_reading.specs.Branching.{IsBranching}
use Rattle.dfa_reading.specs.Headers.{Header, Truth, Systems, Sets, has_states}
use Rattle.dfa_reading.specs.Listed.{Listed}
use Rattle.num_system.specs.Sealed.{SystemValue}
use Rattle.numeration.specs.Representation.{sizes_of}
use Rattle.number_relations.specs.Comparisons.{IsTruth}
use Rattle.number_relations.specs.Readings.{DoesReading}
use Rattle.num_system.specs.Tracks.{ShareDirection, systems_of, direction_of}
use Rattle.number_relations.specs.Relations.{RelationValue}
use Rattle.definitions.specs.Files.{HasListedWord}

-- a table that a file may list: it has a state, unless it is a truth value
abbrev pub IsTable : Listed → Type 0
IsTable listed = has_states listed.header ≡ true → 0 < length listed.outputs

-- systems of one direction, one for each track of a header; sets are no systems
abbrev pub AreForTracks : Header → List SystemValue → Type 0
AreForTracks (Truth value) systems = systems ≡ []
AreForTracks (Systems names) systems = (length systems ≡ length names) × ShareDirection systems
AreForTracks (Sets sets) systems = ⊥

-- the branching automaton of what is listed, over the systems
pub record IsTableOver (systems : List SystemValue) (listed : Listed) (branching : Branching) : Type 0 where
  pub is_branching : IsBranching (sizes_of (systems_of systems)) listed branching
  pub table : IsBranchTable (letters_of branching) branching.states
  pub alphabet : IsAlphabet (sizes_of (systems_of systems))

-- the first step over the systems has too many tracks or letters
pub record HasTooManyLetters (systems : List SystemValue) (old : StepLog) (result : Result RelationValue StepFault) (new : StepLog) : Type 0 where
  pub large : IsTooLarge (sizes_of (systems_of systems))
  pub refused : result ≡ Err (Letters (length old.lines + 1))
  pub same : new ≡ old

-- the steps of a table by its header: a truth value takes none, and over systems its branching automaton is read, padded and kept to the valid words
abbrev pub DoesTableOf : Header → List SystemValue → Listed → StepLog → Result RelationValue StepFault → StepLog → Type 0
DoesTableOf (Truth value) systems listed old result new = WithSome (IsTruth value) Gives old result new
DoesTableOf (Systems names) systems listed old result new = HasTooManyLetters systems old result new ⊎ WithSome (IsTableOver systems listed) (DoesReading systems) old result new
DoesTableOf (Sets sets) systems listed old result new = ⊥

abbrev pub DoesTable : List SystemValue → Listed → StepLog → Result RelationValue StepFault → StepLog → Type 0
DoesTable systems listed = DoesTableOf listed.header systems listed

-- what is listed holds of the numbers over these systems
abbrev pub HoldsBelowOver : Header → List SystemValue → Listed → List ℕ → Type 0
HoldsBelowOver (Truth value) systems listed ns = IsTrue value × (ns ≡ [])
HoldsBelowOver (Systems names) systems listed ns = HasListedWord (direction_of systems) (systems_of systems) listed ns
HoldsBelowOver (Sets sets) systems listed ns = ⊥

abbrev pub ListedHoldsOver : List SystemValue → Listed → List ℕ → Type 0
ListedHoldsOver systems listed ns = HoldsBelowOver listed.header systems listed ns
