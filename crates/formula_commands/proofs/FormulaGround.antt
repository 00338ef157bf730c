-- What is known of a formula whose files are loaded: what resolving it, reading its tables and building it ask for, and what its names mean.
use Rattle.std.proofs.Common.{◌≡◌, ℕ, List, None, sym, subst}
use Rattle.wal_outside.specs.Files.{Files}
use Rattle.digit_tuple.specs.Steps.{StepLog}
use Rattle.dfa_loading.specs.Headers.{headers_of}
use Rattle.dfa_loading.specs.Loading.{AreListedBy}
use Rattle.dfa_loading.specs.declared.loaded.Loaded.{Loaded}
use Rattle.formula_parse.specs.Grammar.{Reads}
use Rattle.text_grammar.specs.Spots.{tokens}
use Rattle.formula_parse.specs.Spots.{spots}
use Rattle.formula_parse.specs.Trees as trees
use Rattle.formula_truth.proofs.MeaningLemmas.{MeanTheSame}
use Rattle.formula_resolve.specs.FirstMentions.{first_files, first_systems}
use Rattle.formula_resolve.specs.Mentions.{mentions}
use Rattle.formula_resolve.specs.Resolving.{fault_of}
use Rattle.formula_resolve.proofs.FirstLemmas.{first_once}
use Rattle.formula_build.proofs.ReadFormulas.{read_known}
use Rattle.formula_build.specs.KnownNames.{AreKnownIn}
use Rattle.plan_relations.specs.Libraries.{meanings_of}
use Rattle.named_systems.specs.NamedSystems.{NamedSystem, AreSealed}
use Rattle.formula_build.specs.Resolved.{AreDirections, plan_headers}
use Rattle.formula_build.specs.Solutions.{direction_named}
use Rattle.formula_build.specs.TrackSystems.{Fits}
use Rattle.definitions.specs.Trees.{Ledger, custom_of}
use Rattle.system_files.specs.SystemFiles.{Custom}
use Rattle.definitions.specs.TreeMeanings.{meanings_in}
use Rattle.definitions.proofs.TextMeanings.{text_means}
use Rattle.definitions.proofs.FileTables.{file_is_table}
use Rattle.definitions.proofs.TableRelations.{table_holds}
use Rattle.definitions.proofs.WordTexts.{word_text_means}
use Rattle.formula_commands.specs.FormulaOutcomes.{bindings_now}
use Rattle.command_parts.specs.FormulaLoads.{HasSystems}
use Rattle.command_parts.specs.FormulaSteps.{AreMeant}
use Rattle.command_parts.specs.TableReads.{TableRead, AreTablesRead, library_with}
use Rattle.command_parts.specs.TableReading.{AreReadable}
use Rattle.definitions.specs.Texts.{Stores}
use Rattle.command_parts.proofs.ReadableTables.{tables_readable}
use Rattle.command_parts.proofs.TableFiles.{files_apart}
use Rattle.command_parts.proofs.TableFits.{tables_fit, files_known}
use Rattle.command_parts.proofs.TableHeaders.{table_directions}
use Rattle.command_parts.proofs.TableMeanings.{tables_mean_the_same}
use Rattle.command_parts.proofs.WordLaws.{words_have_file_letters}

module _ (formula : trees.Formula) (tables : List Loaded) (files : Files) (listed : AreListedBy files (first_files (mentions formula)) tables) where
  -- no two directions meet in a header
  pub ground_directions : AreDirections (headers_of tables) direction_named
  ground_directions = table_directions files (first_files (mentions formula)) tables listed

  module _ (systems : List NamedSystem) (sealed : AreSealed systems) (custom : Custom) (meant : AreMeant custom systems) (resolves : fault_of (headers_of tables) formula ≡ None) (has : HasSystems (first_systems (headers_of tables) (mentions formula)) systems) where
    -- the tables can be read
    pub ground_readable : AreReadable systems tables
    ground_readable = tables_readable file_is_table systems files tables formula (first_once (mentions formula)) listed resolves has custom meant

    module _ (reads : List TableRead) (old new : StepLog) (made : AreTablesRead systems old tables reads new) where
      -- what they make is over the systems of their headers
      pub ground_fits : Fits (library_with reads systems) (plan_headers (headers_of tables)) direction_named
      ground_fits = tables_fit table_holds systems sealed custom tables reads old new meant (files_apart files (first_files (mentions formula)) tables (first_once (mentions formula)) listed) ground_readable made

      -- each name of the formula means something
      pub ground_known : ((text : List ℕ) × Reads (tokens (spots text)) formula) → AreKnownIn (library_with reads systems) formula
      ground_known (text, spelled) =
          read_known (library_with reads systems) (headers_of tables) text formula spelled (files_known systems files (first_files (mentions formula)) tables reads old new listed made) has.default has.mentioned

      -- and for what it is bound to now
      pub ground_means : (ledger : Ledger) → Stores ledger files → custom_of ledger ≡ custom → MeanTheSame (meanings_of (library_with reads systems)) (meanings_in (custom_of ledger) (bindings_now ledger formula))
      ground_means ledger stores same =
          let are : AreMeant (custom_of ledger) systems = subst (λ (c : Custom). AreMeant c systems) (sym same) meant in
          tables_mean_the_same (record { texts = text_means; words = word_text_means; tables = table_holds; letters = words_have_file_letters }) ledger files systems stores sealed are (first_files (mentions formula)) tables reads old new (first_once (mentions formula)) listed ground_readable made
