-- Tables are read in one way over systems that names mean: to one list of relations and words with one log, or to one fault.
use Rattle.std.proofs.Common.{◌≡◌, ◌≢◌, ◌⊎◌, ℕ, List, [], ◌∷◌, Ok, Err, inl, inr, refl, sym, ap, ◌∙◌, subst}
use Rattle.digit_tuple.specs.Steps.{StepLog}
use Rattle.digit_tuple.specs.declared.step_fault.StepFault.{StepFault}
use Rattle.digit_tuple.specs.declared.step_fault.StepFault.TheVariants.{Memory}
use Rattle.automaton_steps.proofs.AnswerCases.{memory_alone, one_value, same_fault}
use Rattle.dfa_loading.specs.declared.loaded.Loaded.{Loaded}
use Rattle.formula_resolve.specs.declared.file.File.{File}
use Rattle.formula_resolve.specs.declared.file.File.TheVariants.{Automaton, Word}
use Rattle.plan_relations.specs.Libraries.{NamedRelation, NamedWord}
use Rattle.named_systems.specs.NamedSystems.{NamedSystem}
use Rattle.num_system.specs.Sealed.{SystemValue}
use Rattle.word_output.specs.Laws.{WordReadingsHaveOneOutcome}
use Rattle.word_output.specs.WordReadings.{DoesWord}
use Rattle.definitions.specs.TableSteps.{DoesTable}
use Rattle.definitions.specs.TableLaws.{TablesHaveOneAnswer}
use Rattle.command_parts.specs.TableReads.{TableRead, ARelation, AWord, AreSystemsUnder, IsRelationRead, IsWordRead, IsTableRead, PassesFile, IsTableRefused, AreTablesRead, IsReadingRefused}
use Rattle.command_parts.proofs.TableReads.{AreAlike, same_under}

-- why one table is not read, unless memory ran out
abbrev pub StopsTable : List NamedSystem → StepLog → Loaded → StepFault → Type 0
StopsTable systems old table fault = (fault ≢ Memory) × IsTableRefused systems old table fault

-- why some tables, one after another, are not read
abbrev pub StopsReading : List NamedSystem → StepLog → List Loaded → StepFault → Type 0
StopsReading systems old [] fault = ⊥
StopsReading systems old (table ∷ tables) fault = StopsTable systems old table fault ⊎ ((r : TableRead) × (mid : StepLog) × IsTableRead systems old table r mid × StopsReading systems mid tables fault)

pub refusal_stops : (systems : List NamedSystem) (old : StepLog) (tables : List Loaded) (fault : StepFault) → fault ≢ Memory → IsReadingRefused systems old tables fault → StopsReading systems old tables fault
refusal_stops systems old [] fault ample refused = absurd refused
refusal_stops systems old (t ∷ tables) fault ample (inl refused) = inl (ample, refused)
refusal_stops systems old (t ∷ tables) fault ample (inr (r, mid, read, later)) = inr (r, mid, read, refusal_stops systems mid tables fault ample later)

no_relation : (name other : List ℕ) (table : Loaded) → table.file ≡ Automaton name → table.file ≡ Word other → ⊥
no_relation name other table first second = let e : Automaton name ≡ Word other = sym first ∙ second in cc

passes_automaton : (name : List ℕ) (old : StepLog) (tracks : List SystemValue) (table : Loaded) (fault : StepFault) → table.file ≡ Automaton name → PassesFile table.file old tracks table.listed fault
    → (new : StepLog) × DoesTable tracks table.listed old (Err fault) new
passes_automaton name old tracks table fault is passes = subst (λ (f : File). PassesFile f old tracks table.listed fault) is passes

passes_word : (name : List ℕ) (old : StepLog) (tracks : List SystemValue) (table : Loaded) (fault : StepFault) → table.file ≡ Word name → PassesFile table.file old tracks table.listed fault
    → (new : StepLog) × DoesWord tracks table.listed old (Err fault) new
passes_word name old tracks table fault is passes = subst (λ (f : File). PassesFile f old tracks table.listed fault) is passes

module _ (one : TablesHaveOneAnswer) (one_word : WordReadingsHaveOneOutcome) where
  -- a relation that is made is not refused
  made_refused : (old new : StepLog) (tracks : List SystemValue) (table : Loaded) (r : NamedRelation) (fault : StepFault) → fault ≢ Memory → DoesTable tracks table.listed old (Ok r.relation) new
      → ((next : StepLog) × DoesTable tracks table.listed old (Err fault) next) → ⊥
  made_refused old new tracks table r fault ample done (next, refused) =
      ample (memory_alone Memory new next r.relation fault (one tracks table.listed old new next (Ok r.relation) (Err fault) done refused))

  -- nor is a word
  word_refused : (old new : StepLog) (tracks : List SystemValue) (table : Loaded) (w : NamedWord) (fault : StepFault) → fault ≢ Memory → DoesWord tracks table.listed old (Ok w.word) new
      → ((next : StepLog) × DoesWord tracks table.listed old (Err fault) next) → ⊥
  word_refused old new tracks table w fault ample done (next, refused) =
      ample (memory_alone Memory new next w.word fault (one_word tracks table.listed old new next (Ok w.word) (Err fault) done refused))

  -- the first step to pass a limit is one
  one_pass : (file : File) (old : StepLog) (tracks : List SystemValue) (table : Loaded) (fault other : StepFault) → fault ≢ Memory → other ≢ Memory → PassesFile file old tracks table.listed fault
      → PassesFile file old tracks table.listed other → fault ≡ other
  one_pass (Automaton name) old tracks table fault other ample enough (new, first) (next, second) =
      same_fault Memory new next fault other (one tracks table.listed old new next (Err fault) (Err other) first second) ample enough
  one_pass (Word name) old tracks table fault other ample enough (new, first) (next, second) =
      same_fault Memory new next fault other (one_word tracks table.listed old new next (Err fault) (Err other) first second) ample enough

  module _ (systems others : List NamedSystem) (alike : AreAlike systems others) where
    same_tracks : (table : Loaded) (ss ts : List SystemValue) → AreSystemsUnder systems table.listed.header ss → AreSystemsUnder others table.listed.header ts → ts ≡ ss
    same_tracks table ss ts under also = sym (same_under systems others table.listed.header ss ts alike under also)

    one_relation : (old new now : StepLog) (table : Loaded) (r s : NamedRelation) → IsRelationRead systems old table r new → IsRelationRead others old table s now → (r ≡ s) × (new ≡ now)
    one_relation old new now table r s first second =
        let there = subst (λ (ts : List SystemValue). DoesTable ts table.listed old (Ok s.relation) now) (same_tracks table first.tracks second.tracks first.over second.over) second.done in
        let same = one_value Memory new now r.relation s.relation (one first.tracks table.listed old new now (Ok r.relation) (Ok s.relation) first.done there) in
        let names : r.name ≡ s.name = let e : Automaton r.name ≡ Automaton s.name = sym first.file_is ∙ second.file_is in cc in
        (λ i. record { name = names i; relation = same.0 i }, same.1)

    one_word_read : (old new now : StepLog) (table : Loaded) (v w : NamedWord) → IsWordRead systems old table v new → IsWordRead others old table w now → (v ≡ w) × (new ≡ now)
    one_word_read old new now table v w first second =
        let there = subst (λ (ts : List SystemValue). DoesWord ts table.listed old (Ok w.word) now) (same_tracks table first.tracks second.tracks first.over second.over) second.done in
        let same = one_value Memory new now v.word w.word (one_word first.tracks table.listed old new now (Ok v.word) (Ok w.word) first.done there) in
        let names : v.name ≡ w.name = let e : Word v.name ≡ Word w.name = sym first.file_is ∙ second.file_is in cc in
        (λ i. record { name = names i; word = same.0 i }, same.1)

    one_read : (old new now : StepLog) (table : Loaded) (r s : TableRead) → IsTableRead systems old table r new → IsTableRead others old table s now → (r ≡ s) × (new ≡ now)
    one_read old new now table (ARelation r) (ARelation s) first second = let same = one_relation old new now table r s first second in (ap ARelation same.0, same.1)
    one_read old new now table (ARelation r) (AWord w) first second = absurd (no_relation r.name w.name table first.file_is second.file_is)
    one_read old new now table (AWord w) (ARelation r) first second = absurd (no_relation r.name w.name table second.file_is first.file_is)
    one_read old new now table (AWord v) (AWord w) first second = let same = one_word_read old new now table v w first second in (ap AWord same.0, same.1)

    -- a table that is read is not stopped, whichever of the two systems it is read over
    read_apart : (old new : StepLog) (table : Loaded) (r : TableRead) (fault : StepFault) → IsTableRead systems old table r new → StopsTable others old table fault → ⊥
    read_apart old new table (ARelation r) fault read (ample, refused) =
        made_refused old new read.tracks table r fault ample read.done
        (subst (λ (ts : List SystemValue). (next : StepLog) × DoesTable ts table.listed old (Err fault) next) (same_tracks table read.tracks refused.tracks read.over refused.over)
        (passes_automaton r.name old refused.tracks table fault read.file_is refused.passes))
    read_apart old new table (AWord w) fault read (ample, refused) =
        word_refused old new read.tracks table w fault ample read.done
        (subst (λ (ts : List SystemValue). (next : StepLog) × DoesWord ts table.listed old (Err fault) next) (same_tracks table read.tracks refused.tracks read.over refused.over)
        (passes_word w.name old refused.tracks table fault read.file_is refused.passes))

    stop_apart : (old new : StepLog) (table : Loaded) (r : TableRead) (fault : StepFault) → StopsTable systems old table fault → IsTableRead others old table r new → ⊥
    stop_apart old new table (ARelation r) fault (ample, refused) read =
        made_refused old new refused.tracks table r fault ample
        (subst (λ (ts : List SystemValue). DoesTable ts table.listed old (Ok r.relation) new) (same_tracks table refused.tracks read.tracks refused.over read.over) read.done)
        (passes_automaton r.name old refused.tracks table fault read.file_is refused.passes)
    stop_apart old new table (AWord w) fault (ample, refused) read =
        word_refused old new refused.tracks table w fault ample
        (subst (λ (ts : List SystemValue). DoesWord ts table.listed old (Ok w.word) new) (same_tracks table refused.tracks read.tracks refused.over read.over) read.done)
        (passes_word w.name old refused.tracks table fault read.file_is refused.passes)

    -- a table is stopped by one fault
    one_stop : (old : StepLog) (table : Loaded) (fault other : StepFault) → StopsTable systems old table fault → StopsTable others old table other → fault ≡ other
    one_stop old table fault other (ample, first) (enough, second) =
        one_pass table.file old first.tracks table fault other ample enough first.passes
        (subst (λ (ts : List SystemValue). PassesFile table.file old ts table.listed other) (same_tracks table first.tracks second.tracks first.over second.over) second.passes)

    -- two readings give the same
    pub one_reading : (old new now : StepLog) (tables : List Loaded) (rs ss : List TableRead) → AreTablesRead systems old tables rs new → AreTablesRead others old tables ss now → (rs ≡ ss) × (new ≡ now)
    one_reading old new now [] [] [] first second = (refl, first ∙ sym second)
    one_reading old new now [] [] (s ∷ ss) first second = absurd second
    one_reading old new now [] (r ∷ rs) ss first second = absurd first
    one_reading old new now (t ∷ tables) [] ss first second = absurd first
    one_reading old new now (t ∷ tables) (r ∷ rs) [] first second = absurd second
    one_reading old new now (t ∷ tables) (r ∷ rs) (s ∷ ss) (mid, read, rest) (mid', read', rest') =
        let (here, same) = one_read old mid mid' t r s read read' in
        let (later, last) = one_reading mid new now tables rs ss rest (subst (λ (m : StepLog). AreTablesRead others m tables ss now) (sym same) rest') in
        (λ i. here i ∷ later i, last)

    -- what is read is not stopped
    pub reading_apart : (old new : StepLog) (tables : List Loaded) (rs : List TableRead) (fault : StepFault) → AreTablesRead systems old tables rs new → StopsReading others old tables fault → ⊥
    reading_apart old new [] rs fault read stopped = stopped
    reading_apart old new (t ∷ tables) [] fault read stopped = read
    reading_apart old new (t ∷ tables) (r ∷ rs) fault (mid, read, rest) (inl stopped) = read_apart old mid t r fault read stopped
    reading_apart old new (t ∷ tables) (r ∷ rs) fault (mid, read, rest) (inr (s, mid', read', stopped)) =
        let same = (one_read old mid mid' t r s read read').1 in
        reading_apart mid new tables rs fault rest (subst (λ (m : StepLog). StopsReading others m tables fault) (sym same) stopped)

    -- two readings that stop have one fault
    pub one_stopping : (old : StepLog) (tables : List Loaded) (fault other : StepFault) → StopsReading systems old tables fault → StopsReading others old tables other → fault ≡ other
    one_stopping old [] fault other first second = absurd first
    one_stopping old (t ∷ tables) fault other (inl first) (inl second) = one_stop old t fault other first second
    one_stopping old (t ∷ tables) fault other (inl first) (inr (s, mid, read, second)) = absurd (stop_apart old mid t s fault first read)
    one_stopping old (t ∷ tables) fault other (inr (r, mid, read, first)) (inl second) = absurd (read_apart old mid t r other read second)
    one_stopping old (t ∷ tables) fault other (inr (r, mid, read, first)) (inr (s, mid', read', second)) =
        let same = (one_read old mid mid' t r s read read').1 in
        one_stopping mid tables fault other first (subst (λ (m : StepLog). StopsReading others m tables other) (sym same) second)
