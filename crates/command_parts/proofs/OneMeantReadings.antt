-- Tables that files list are read in one way over systems that names mean, whichever systems these are.
use Rattle.std.proofs.Common.{◌≡◌, ◌≢◌, List, [], ◌∷◌, Result, Err, refl, sym, ap, ◌∙◌, subst}
use Rattle.std.specs.List.{AllByRecursion}
use Rattle.wal_outside.specs.Files.{Files}
use Rattle.digit_tuple.specs.Steps.{StepLog}
use Rattle.digit_tuple.specs.declared.step_fault.StepFault.{StepFault}
use Rattle.digit_tuple.specs.declared.step_fault.StepFault.TheVariants as steps
use Rattle.digit_tuple.specs.declared.steps.StepLine.{StepLine}
use Rattle.dfa_reading.specs.Headers.{Header, Truth, Systems, Sets}
use Rattle.dfa_loading.specs.Loading.{AreListedBy}
use Rattle.dfa_loading.specs.declared.loaded.Loaded.{Loaded}
use Rattle.formula_resolve.specs.Headers.{known}
use Rattle.formula_resolve.specs.declared.file.File.{File}
use Rattle.named_systems.specs.NamedSystems.{NamedSystem, AreSealed}
use Rattle.formula_build.specs.Resolved as resolved
use Rattle.formula_build.specs.Solutions.{direction_named}
use Rattle.num_system.specs.Sealed.{SystemValue}
use Rattle.num_system.specs.Tracks.{ShareDirection}
use Rattle.system_files.specs.SystemFiles.{Custom}
use Rattle.definitions.proofs.FileTables.{file_is_table}
use Rattle.definitions.proofs.OneTable.{one_table}
use Rattle.command_parts.specs.FormulaSteps.{AreMeant, IsReadingStopped}
use Rattle.command_parts.specs.TableReads.{TableRead, ARelation, AWord, AreSystemsUnder, IsTableRead, AreTablesRead}
use Rattle.command_parts.specs.TableReading.{IsReadable, AreReadable}
use Rattle.command_parts.proofs.OneSealed.{meant_agree}
use Rattle.command_parts.proofs.OneTableReadings.{StopsReading, refusal_stops, one_reading, reading_apart, one_stopping}
use Rattle.command_parts.proofs.ReadableTables.{under_shared_direction}
use Rattle.command_parts.proofs.TableFiles.{IsListedTable, tables_listed}
use Rattle.command_parts.proofs.TableHeaders as table_headers
use Rattle.command_parts.proofs.TableHeaders.{systems_in, tables_shared_direction}
use Rattle.command_parts.proofs.TableReads.{AreAlike}
use Rattle.command_parts.proofs.WordLaws.{one_word_outcome}

-- the systems that are under the header of the table have one direction
abbrev IsOfOneDirection : List NamedSystem → Loaded → Type 0
IsOfOneDirection systems table = (tracks : List SystemValue) → AreSystemsUnder systems table.listed.header tracks → ShareDirection tracks

-- over systems that names mean, each table has tracks of one direction
table_directions : (custom : Custom) (systems : List NamedSystem) (tables : List Loaded) → AreMeant custom systems → AllByRecursion table_headers.IsOfOneDirection tables → AllByRecursion (IsOfOneDirection systems) tables
table_directions custom systems [] are directions = tt
table_directions custom systems (table ∷ tables) are directions = (of_header table.listed.header directions.0, table_directions custom systems tables are directions.1)
  where
    of_header : (header : Header) → resolved.ShareDirection direction_named (known (systems_in header)) → (tracks : List SystemValue) → AreSystemsUnder systems header tracks → ShareDirection tracks
    of_header (Truth value) one tracks under = subst ShareDirection (sym under) tt
    of_header (Systems names) one tracks under = under_shared_direction custom systems names tracks are one under
    of_header (Sets sets) one tracks under = absurd under

-- tables that were read were readable
read_readable : (systems : List NamedSystem) (old new : StepLog) (tables : List Loaded) (reads : List TableRead) → AllByRecursion IsListedTable tables → AllByRecursion (IsOfOneDirection systems) tables → AreTablesRead systems old tables reads new → AreReadable systems tables
read_readable systems old new [] reads are directions made = tt
read_readable systems old new (table ∷ tables) [] are directions made = absurd made
read_readable systems old new (table ∷ tables) (r ∷ reads) are directions (mid, first, rest) = (one r first, read_readable systems mid new tables reads are.1 directions.1 rest)
  where
    over : (tracks : List SystemValue) → AreSystemsUnder systems table.listed.header tracks → IsReadable systems table
    over tracks under = record { lists = are.0.lists; is_table = are.0.is_table; is_word = are.0.is_word; tracks = tracks; over = under; shared_direction = directions.0 tracks under }

    one : (r : TableRead) → IsTableRead systems old table r mid → IsReadable systems table
    one (ARelation x) read = over read.tracks read.over
    one (AWord x) read = over read.tracks read.over

-- the tables are not read, over some systems that names mean
pub record IsStopped (admitted : StepLog) (custom : Custom) (tables : List Loaded) (r : Result (List StepLine) StepFault) : Type 0 where
  pub systems : List NamedSystem
  pub sealed : AreSealed systems
  pub meant : AreMeant custom systems
  pub fault : StepFault
  pub stops : StopsReading systems admitted tables fault
  pub is : r ≡ Err fault

-- reading is stopped by a step
pub stopped_by : (admitted : StepLog) (custom : Custom) (tables : List Loaded) (fault : StepFault) → fault ≢ steps.Memory → IsReadingStopped admitted custom tables fault → IsStopped admitted custom tables (Err fault)
stopped_by admitted custom tables fault not_memory a = record { systems = a.systems; sealed = a.sealed; meant = a.meant; fault = fault; stops = refusal_stops a.systems admitted tables fault not_memory a.refused; is = refl }

module _ (admitted : StepLog) (custom : Custom) (tables : List Loaded) (files : Files) (named : List File) (listed : AreListedBy files named tables) where
  directions : (systems : List NamedSystem) → AreMeant custom systems → AllByRecursion (IsOfOneDirection systems) tables
  directions systems meant = table_directions custom systems tables meant (tables_shared_direction files named tables listed)

  alike : (systems others : List NamedSystem) → AreSealed systems → AreMeant custom systems → AreSealed others → AreMeant custom others → AreAlike systems others
  alike systems others sealed meant sealed' meant' = (meant_agree custom systems others sealed meant sealed' meant').systems

  -- two readings give the same
  pub same_reading : (systems others : List NamedSystem) (new now : StepLog) (rs ss : List TableRead) → AreSealed systems → AreMeant custom systems → AreSealed others → AreMeant custom others → AreTablesRead systems admitted tables rs new → AreTablesRead others admitted tables ss now
      → (rs ≡ ss) × (new ≡ now)
  same_reading systems others new now rs ss sealed meant sealed' meant' read read' =
      one_reading one_table one_word_outcome systems others (alike systems others sealed meant sealed' meant') admitted new now tables rs ss read read'

  -- tables that were read were readable
  pub were_readable : (systems : List NamedSystem) (new : StepLog) (rs : List TableRead) → AreMeant custom systems → AreTablesRead systems admitted tables rs new → AreReadable systems tables
  were_readable systems new rs meant read = read_readable systems admitted new tables rs (tables_listed file_is_table files named tables listed) (directions systems meant) read

  -- what is read is not stopped
  pub read_stopped : (systems : List NamedSystem) (new : StepLog) (rs : List TableRead) (r : Result (List StepLine) StepFault) → AreSealed systems → AreMeant custom systems → AreTablesRead systems admitted tables rs new → IsStopped admitted custom tables r → ⊥
  read_stopped systems new rs r sealed meant read q =
      reading_apart one_table one_word_outcome systems q.systems (alike systems q.systems sealed meant q.sealed q.meant) admitted new tables rs q.fault read q.stops

  -- and two that stop have one fault
  pub both_stopped : (r s : Result (List StepLine) StepFault) → IsStopped admitted custom tables r → IsStopped admitted custom tables s → r ≡ s
  both_stopped r s p q =
      let same : p.fault ≡ q.fault = one_stopping one_table one_word_outcome p.systems q.systems (alike p.systems q.systems p.sealed p.meant q.sealed q.meant) admitted tables p.fault q.fault p.stops q.stops in
      p.is ∙ (ap (λ (f : StepFault). let x : Result (List StepLine) StepFault = Err f in x) same ∙ sym q.is)
