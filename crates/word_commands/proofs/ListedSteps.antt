-- The steps by which listed automata are combined, and why they are refused, from what the code of each part answers.
use Rattle.std.proofs.Common.{◌≢◌, List, [], ◌∷◌, pos, Some, Ok, Err, inl, inr, refl, sym, subst}
use Rattle.combinations.specs.Combined.{AreSystemsFor}
use Rattle.combinations.specs.CombineSteps.{DoesCombine}
use Rattle.combinations.specs.Parts.{PartValue, systems_at}
use Rattle.combinations.specs.declared.combine_fault.CombineFault.TheVariants as combines
use Rattle.command_head.specs.Heads.{ValuedName}
use Rattle.digit_tuple.specs.Steps.{StepLog}
use Rattle.digit_tuple.specs.declared.step_fault.StepFault.{StepFault}
use Rattle.digit_tuple.specs.declared.step_fault.StepFault.TheVariants as step_faults
use Rattle.dfa_loading.specs.declared.loaded.Loaded.{Loaded}
use Rattle.named_systems.specs.NamedSystems.{NamedSystem, AreSealed}
use Rattle.system_files.specs.SystemFiles.{Custom}
use Rattle.word_output.specs.Words.{WordValue}
use Rattle.word_commands.specs.declared.combine.ListedAutomata.{ListedAutomata}
use Rattle.command_parts.specs.Checks.{Pure, Fails}
use Rattle.word_commands.specs.CombineMakes.{AreStepsOver, automata_of}
use Rattle.word_commands.specs.CombineOutcomes.{CombinedAnswers}
use Rattle.word_commands.specs.CombineSteps.{ArePartsFrom, AreListedParts, AreCombineStepsRefused}
use Rattle.command_parts.specs.FormulaSteps.{AreMeant, IsUnread}
use Rattle.command_parts.specs.TableReads.{TableRead, AreTablesRead, relations_in}
use Rattle.command_parts.specs.TrackSystems.{fault_of}

-- a step passes a limit
uncombined : (admitted : StepLog) (custom : Custom) (tables : List Loaded) (automata : List ValuedName) (fault : StepFault) → AreCombineStepsRefused admitted custom tables automata fault → Fails (Pure (CombinedAnswers admitted custom tables automata)) (fault_of fault)
uncombined admitted custom tables automata (step_faults.Letters step) refused = (step_faults.Letters step, refl, refused)
uncombined admitted custom tables automata (step_faults.States step) refused = (step_faults.States step, refl, refused)
uncombined admitted custom tables automata step_faults.Memory refused = tt

-- one that reads a table does, or memory runs out there
pub unread_list : (admitted : StepLog) (custom : Custom) (tables : List Loaded) (automata : List ValuedName) (fault : StepFault) → IsUnread admitted custom tables fault
    → Fails (Pure (CombinedAnswers admitted custom tables automata)) (fault_of fault)
unread_list admitted custom tables automata fault (inl memory) = subst (λ (f : StepFault). Fails (Pure (CombinedAnswers admitted custom tables automata)) (fault_of f)) (sym memory) tt
unread_list admitted custom tables automata fault (inr stopped) = uncombined admitted custom tables automata fault (inl stopped)

module _ (admitted : StepLog) (read : ListedAutomata) (systems : List NamedSystem) (sealed : AreSealed systems) (reads : List TableRead) (reading : StepLog) (made : AreTablesRead systems admitted read.mentioned.tables.items reads reading)
    (parts : List PartValue) (are : ArePartsFrom (relations_in reads) 0 (automata_of read) parts) (some : automata_of read ≢ []) where
  tracks_of : (vs : List ValuedName) (ps : List PartValue) → ArePartsFrom (relations_in reads) 0 vs ps → vs ≢ [] → AreSystemsFor ps (systems_at ps 0)
  tracks_of [] ps are none = absurd (none refl)
  tracks_of (v ∷ vs) [] are none = absurd are
  tracks_of (v ∷ vs) (p ∷ ps) are none = refl

  before : (custom : Custom) → AreMeant custom systems → AreListedParts admitted custom read.mentioned.tables.items (automata_of read)
  before custom meant = record {
    systems = systems;
    sealed = sealed;
    meant = meant;
    reads = reads;
    reading = reading;
    read = made;
    parts = parts;
    parts_are = are;
    tracks = systems_at parts 0;
    tracks_are = tracks_of (automata_of read) parts are some;
  }

  -- the step that combines them is done
  pub list_done : (custom : Custom) → AreMeant custom systems → (word : WordValue) (log : StepLog) → DoesCombine (Some (pos 0)) parts (systems_at parts 0) reading (Ok word) log → AreStepsOver admitted custom systems read word log.lines
  unfolding before
  list_done custom meant word log done = record { steps = record { before = before custom meant; log = log; done = done.1; lines_are = refl }; systems_are = refl }

  -- or it is refused
  pub list_refused : (custom : Custom) → AreMeant custom systems → (fault : StepFault) (log : StepLog) → DoesCombine (Some (pos 0)) parts (systems_at parts 0) reading (Err (combines.Step fault)) log → Fails (Pure (CombinedAnswers admitted custom read.mentioned.tables.items (automata_of read))) (fault_of fault)
  unfolding before
  list_refused custom meant fault log refused = uncombined admitted custom read.mentioned.tables.items (automata_of read) fault (inr (record { before = before custom meant; log = log; refused = refused.1 }))
