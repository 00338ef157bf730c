-- What is answered about the words of a table is what the checks of the command say of the definition that it stores.
use Rattle.std.proofs.Common.{◌≡◌, ℕ, ℤ, Bool, false, List, [], ◌∷◌, None, Some, Result, Ok, Err, inl, inr, refl, sym, subst}
use Rattle.wal_outside.specs.Files.{Files}
use Rattle.digit_tuple.specs.Deterministic as deterministic
use Rattle.digit_tuple.specs.Steps.{StepLog}
use Rattle.digit_tuple.specs.declared.step_fault.StepFault.{StepFault}
use Rattle.digit_tuple.specs.declared.steps.StepLine.{StepLine}
use Rattle.dfa_loading.specs.Places.{IsListedBy}
use Rattle.dfa_loading.specs.declared.loaded.Loaded.{Loaded}
use Rattle.dfa_reading.specs.Headers.{Header, Truth, Systems, Sets}
use Rattle.formula_resolve.specs.declared.file.File.{File}
use Rattle.formula_resolve.specs.declared.file.File.TheVariants.{Automaton}
use Rattle.named_systems.specs.NamedSystems.{NamedSystem, AreSealed}
use Rattle.num_system.specs.Sealed.{SystemValue}
use Rattle.num_system.specs.Tracks.{direction_of}
use Rattle.number_relations.specs.Relations.{RelationValue}
use Rattle.word_walk.specs.Listed.{is_listed}
use Rattle.language_steps.specs.LanguageSteps.{DoesPlainTable}
use Rattle.language_steps.specs.Tables.{is_over_sets}
use Rattle.definitions.specs.Listings.{AreTracksOf}
use Rattle.definitions.specs.TableSteps.{DoesTable}
use Rattle.definitions.specs.Texts.{Stores}
use Rattle.definitions.specs.Tracks.{OverSets}
use Rattle.definitions.specs.Trees.{Ledger, tree_of, custom_of}
use Rattle.table_listings.specs.declared.question.Answer.{Answer}
use Rattle.table_listings.specs.declared.question.Question.{Question}
use Rattle.listing_commands.specs.declared.listing_fault.ListingFault.{ListingFault}
use Rattle.command_parts.specs.FormulaSteps.{AreMeant}
use Rattle.listing_commands.specs.ListingMakes.{AnswersBelow, AnswersBy, AnswersOver, AnswersUnder, DoesRelation}
use Rattle.listing_commands.specs.ListingOutcomes.{IsRead, IsReadRefused, IsSystemsRead, DecidesListed, after_listing_systems}
use Rattle.command_parts.specs.TableReads.{ARelation, AreSystemsUnder, IsRelationRead, PassesFile}
use Rattle.command_parts.specs.TableReading.{IsReadable}
use Rattle.listing_commands.proofs.ListingChains.{PrintsAnswer, answered_so}
use Rattle.listing_commands.proofs.ListingWords.{ListingLaws, are_tracks, definition, relation_decides, same_sets, sets_decide, tracks_below}
use Rattle.command_parts.proofs.TableRelations.{read_shared_direction}

module _ (laws : ListingLaws) (ledger : Ledger) (files : Files) (stores : Stores ledger files) (name : List ℕ) (question : Question) (table : Loaded) (listed : IsListedBy files (Automaton name) table) (admitted log : StepLog) (shown : Bool) where
  abbrev Says : Result Answer ListingFault → Type 0
  Says result = PrintsAnswer (after_listing_systems ledger name question (table ∷ []) admitted) shown log.lines result

  module _ (sets : List (List ℤ)) (header : table.listed.header ≡ Sets sets) where
    -- the table is over sets
    sets_said : (result : Result Answer ListingFault) → AnswersBy (λ r. DoesPlainTable table.listed admitted r log) None sets name question result → Says result
    sets_said result is =
        answered_so ledger name question table admitted (OverSets sets) (subst (λ (h : Header). AreTracksOf (custom_of ledger) h (OverSets sets)) (sym header) refl) log (definition laws ledger files stores name table listed).0
        (definition laws ledger files stores name table listed).1 (λ r. DoesPlainTable table.listed admitted r log) None reads stops decides_words shown result is
      where
        reads : (d : deterministic.Automaton) → DoesPlainTable table.listed admitted (Ok d) log → IsRead table.listed.header admitted (custom_of ledger) table log.lines
        reads d does = subst (λ (h : Header). IsRead h admitted (custom_of ledger) table log.lines) (sym header) (record { read = d; log = log; done = does; lines_are = refl })

        stops : (fault : StepFault) → DoesPlainTable table.listed admitted (Err fault) log → IsReadRefused table.listed.header admitted (custom_of ledger) table fault
        stops fault does = subst (λ (h : Header). IsReadRefused h admitted (custom_of ledger) table fault) (sym header) (log, does)

        decides_words : (d : deterministic.Automaton) → DoesPlainTable table.listed admitted (Ok d) log → DecidesListed (custom_of ledger) (OverSets sets) (tree_of (definition laws ledger files stores name table listed).0) (is_listed d None)
        decides_words d does = sets_decide laws ledger files stores name table listed sets header d admitted log does

  module _ (systems : List NamedSystem) (sealed : AreSealed systems) (meant : AreMeant (custom_of ledger) systems) (readable : IsReadable systems table) (found : List SystemValue) (under : AreSystemsUnder systems table.listed.header found) where
    abbrev relation_read : (r : RelationValue) → DoesTable found table.listed admitted (Ok r) log → IsRelationRead systems admitted table (record { name = name; relation = r }) log
    relation_read r does = record { file_is = listed.lists.file_is; tracks = found; over = under; done = does }

    -- by the header
    read_by : (header : Header) (lines : List StepLine) → AreSystemsUnder systems header found → IsSystemsRead admitted (custom_of ledger) table lines → IsRead header admitted (custom_of ledger) table lines
    read_by (Truth value) lines over read = read
    read_by (Systems names) lines over read = read
    read_by (Sets sets) lines over read = absurd over

    refused_by : (header : Header) (fault : StepFault) → AreSystemsUnder systems header found → (new : StepLog) × DoesTable found table.listed admitted (Err fault) new → IsReadRefused header admitted (custom_of ledger) table fault
    refused_by (Truth value) fault over does = record { systems = systems; sealed = sealed; meant = meant; refused = inl (record { tracks = found; over = under; passes = passes fault does }) }
      where
        passes : (f : StepFault) → (new : StepLog) × DoesTable found table.listed admitted (Err f) new → PassesFile table.file admitted found table.listed f
        passes f d = subst (λ (file : File). PassesFile file admitted found table.listed f) (sym listed.lists.file_is) d
    refused_by (Systems names) fault over does = record { systems = systems; sealed = sealed; meant = meant; refused = inl (record { tracks = found; over = under; passes = passes fault does }) }
      where
        passes : (f : StepFault) → (new : StepLog) × DoesTable found table.listed admitted (Err f) new → PassesFile table.file admitted found table.listed f
        passes f d = subst (λ (file : File). PassesFile file admitted found table.listed f) (sym listed.lists.file_is) d
    refused_by (Sets sets) fault over does = absurd over

    -- the table is over systems, or over nothing
    over_said : (result : Result Answer ListingFault) → AnswersOver admitted table found name question result log → Says result
    over_said result is =
        answered_so ledger name question table admitted (tracks_below table.listed.header found)
        (are_tracks (custom_of ledger) systems meant table.listed.header found under (read_shared_direction systems table found readable under)) log (definition laws ledger files stores name table listed).0
        (definition laws ledger files stores name table listed).1 (λ r. DoesRelation found table.listed admitted r log) (Some (direction_of found)) reads stops decides_words shown result
        (subst (λ (sets : List (List ℤ)). AnswersBy (λ r. DoesRelation found table.listed admitted r log) (Some (direction_of found)) sets name question result) (sym (same_sets table.listed.header found)) is)
      where
        reads : (d : deterministic.Automaton) → DoesRelation found table.listed admitted (Ok d) log → IsRead table.listed.header admitted (custom_of ledger) table log.lines
        reads d (r, same, does) =
            read_by table.listed.header log.lines under
            (record { systems = systems; sealed = sealed; meant = meant; reads = ARelation (record { name = name; relation = r }) ∷ []; log = log; done = (log, relation_read r does, refl); lines_are = refl })

        stops : (fault : StepFault) → DoesRelation found table.listed admitted (Err fault) log → IsReadRefused table.listed.header admitted (custom_of ledger) table fault
        stops fault does = refused_by table.listed.header fault under (log, does)

        decides_words : (d : deterministic.Automaton) → DoesRelation found table.listed admitted (Ok d) log
            → DecidesListed (custom_of ledger) (tracks_below table.listed.header found) (tree_of (definition laws ledger files stores name table listed).0) (is_listed d (Some (direction_of found)))
        decides_words d (r, same, does) =
            subst (λ (x : deterministic.Automaton). DecidesListed (custom_of ledger) (tracks_below table.listed.header found) (tree_of (definition laws ledger files stores name table listed).0) (is_listed x (Some (direction_of found)))) same
            (relation_decides laws ledger files stores name table listed systems sealed meant readable admitted log (record { name = name; relation = r }) (relation_read r does))

  module _ (systems : List NamedSystem) (sealed : AreSealed systems) (meant : AreMeant (custom_of ledger) systems) (readable : is_over_sets table.listed.header ≡ false → IsReadable systems table) where
    under_said : is_over_sets table.listed.header ≡ false → (result : Result Answer ListingFault) → AnswersUnder systems admitted table name question result log → Says result
    under_said other result (inl out) = subst Says (sym out) tt
    under_said other result (inr (found, under, is)) = over_said systems sealed meant (readable other) found under result is

    -- what is answered is what the checks after the systems give
    pub below_said : (header : Header) → table.listed.header ≡ header → (result : Result Answer ListingFault) → AnswersBelow header systems admitted table name question result log
        → PrintsAnswer (after_listing_systems ledger name question (table ∷ []) admitted) shown log.lines result
    below_said (Truth value) is result answers = under_said (subst (λ (h : Header). is_over_sets h ≡ false) (sym is) refl) result answers
    below_said (Systems names) is result answers = under_said (subst (λ (h : Header). is_over_sets h ≡ false) (sym is) refl) result answers
    below_said (Sets sets) is result answers = sets_said sets is result answers
