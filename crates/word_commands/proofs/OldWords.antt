-- What is known of a word whose image is taken and whose table is loaded: the table can be read, a word is under the name, over the systems of
-- its header, and it has the letters of what the ledger has under that name.
use Rattle.std.proofs.Common.{◌≡◌, ℕ, Bool, List, [], ◌∷◌, length, get_or, if◌then◌else◌, Some, refl, sym, ap, ◌∙◌, subst, arith}
use Rattle.std.proofs.lemmas.Slice.Eq.{bytes_eq-Decides}
use Rattle.wal_outside.specs.Files.{Files}
use Rattle.digit_tuple.specs.Steps.{StepLog}
use Rattle.dfa_loading.specs.Headers.{headers_of}
use Rattle.dfa_loading.specs.Loading.{AreListedBy}
use Rattle.dfa_loading.specs.declared.loaded.Loaded.{Loaded}
use Rattle.formula_resolve.specs.FirstMentions.{first_files, first_systems}
use Rattle.formula_resolve.specs.Headers.{word_tracks}
use Rattle.formula_resolve.specs.declared.file.File.TheVariants.{Automaton, Word}
use Rattle.formula_resolve.proofs.FirstLemmas.{first_once}
use Rattle.plan_relations.specs.Libraries.{word_named}
use Rattle.named_systems.specs.NamedSystems.{NamedSystem, AreSealed}
use Rattle.formula_build.specs.Resolved.{plan_headers}
use Rattle.formula_build.specs.Solutions.{direction_named}
use Rattle.formula_build.specs.TrackSystems.{Fits, IsWordOverSystems}
use Rattle.num_system.specs.Sealed.{SystemValue}
use Rattle.num_system.specs.Tracks.{absent_system, direction_of}
use Rattle.word_output.specs.Words.{WordValue}
use Rattle.definitions.proofs.FileTables.{file_is_table}
use Rattle.definitions.proofs.TableRelations.{table_holds}
use Rattle.definitions.proofs.TextMeanings.{text_means}
use Rattle.definitions.proofs.WordTexts.{word_text_means}
use Rattle.definitions.specs.Texts.{Stores}
use Rattle.definitions.specs.Trees.{Ledger, custom_of}
use Rattle.system_files.specs.SystemFiles.{Custom}
use Rattle.command_parts.specs.FormulaLoads.{HasSystems}
use Rattle.command_parts.specs.FormulaSteps.{AreMeant}
use Rattle.word_commands.specs.ImageOutcomes.{old_mentions}
use Rattle.command_parts.specs.TableReads.{TableRead, ARelation, AWord, AreTablesRead, words_in, library_with}
use Rattle.command_parts.specs.TableReading.{AreReadable}
use Rattle.command_parts.proofs.BoundFiles.{AreMeantAs}
use Rattle.command_parts.proofs.ReadableTables.{mentions_readable}
use Rattle.command_parts.proofs.TableFiles.{files_apart}
use Rattle.command_parts.proofs.TableFits.{files_known, tables_fit}
use Rattle.command_parts.proofs.TableMeanings.{HasLettersAs, MeansAs, tables_mean_as}
use Rattle.command_parts.proofs.WordLaws.{words_have_file_letters}

-- the systems of one track have the direction of the first
direction_of_first : (systems : List SystemValue) → length systems ≡ 1 → direction_of systems ≡ (get_or systems 0 absent_system).direction
direction_of_first [] one = absurd (omega (arith, one))
direction_of_first (s ∷ systems) one = refl

-- what is read of the file alone means what is under its name
only_word : (ledger : Ledger) (old : List ℕ) (reads : List TableRead) (v : WordValue) → AreMeantAs (MeansAs ledger) (Word old ∷ []) reads → word_named (words_in reads) old ≡ Some v → HasLettersAs ledger old v
only_word ledger old [] v are is = absurd are
only_word ledger old (ARelation r ∷ reads) v (same, means, rest) is = absurd (let e : Automaton r.name ≡ Word old = same in cc)
only_word ledger old (AWord w ∷ reads) v (same, means, rest) is =
    let names : w.name ≡ old = let e : Word w.name ≡ Word old = same in cc in
    let found : word_named (words_in (AWord w ∷ reads)) old ≡ Some w.word = ap (λ (c : Bool). if c then Some w.word else word_named (words_in reads) old) ((bytes_eq-Decides w.name old).1 names) in
    let words : w.word ≡ v = let e : Some w.word ≡ Some v = sym found ∙ is in cc in
    let own : HasLettersAs ledger w.name w.word = means in
    subst (HasLettersAs ledger old) words (subst (λ (n : List ℕ). HasLettersAs ledger n w.word) names own)

module _ (old : List ℕ) (tables : List Loaded) (files : Files) (listed : AreListedBy files (first_files (old_mentions old)) tables)
    (systems : List NamedSystem) (sealed : AreSealed systems) (custom : Custom) (meant : AreMeant custom systems) (has : HasSystems (first_systems (headers_of tables) (old_mentions old)) systems) where
  -- the table can be read
  pub old_readable : AreReadable systems tables
  old_readable = mentions_readable file_is_table systems files tables (old_mentions old) (first_once (old_mentions old)) listed (tt, tt) has custom meant

  module _ (reads : List TableRead) (before new : StepLog) (made : AreTablesRead systems before tables reads new) where
    fits : Fits (library_with reads systems) (plan_headers (headers_of tables)) direction_named
    fits = tables_fit table_holds systems sealed custom tables reads before new meant (files_apart files (first_files (old_mentions old)) tables (first_once (old_mentions old)) listed) old_readable made

    -- a word is under the name
    pub old_there : (v : WordValue) × (word_named (words_in reads) old ≡ Some v)
    old_there = (files_known systems files (first_files (old_mentions old)) tables reads before new listed made).0

    -- it is over the systems of the header
    pub old_over : (v : WordValue) → word_named (words_in reads) old ≡ Some v → IsWordOverSystems (library_with reads systems) (word_tracks (headers_of tables) old) v
    old_over v is = fits.words old v is

    -- so it has one where that has one, in the direction that its name decides
    module _ (v : WordValue) (is : word_named (words_in reads) old ≡ Some v) (one : length (word_tracks (headers_of tables) old) ≡ 1) where
      pub old_single : length v.systems ≡ 1
      old_single = (old_over v is).count ∙ one

      pub old_direction : direction_of v.systems ≡ direction_named (get_or (word_tracks (headers_of tables) old) 0 [])
      old_direction =
          direction_of_first v.systems old_single ∙ fits.directions (get_or (word_tracks (headers_of tables) old) 0 []) (get_or v.systems 0 absent_system) ((old_over v is).each 0 (omega (arith, one)))

    -- it has the letters of what the ledger has under its name
    pub old_means : (ledger : Ledger) → Stores ledger files → custom_of ledger ≡ custom → (v : WordValue) → word_named (words_in reads) old ≡ Some v → HasLettersAs ledger old v
    old_means ledger stores same v is =
        let are : AreMeant (custom_of ledger) systems = subst (λ (c : Custom). AreMeant c systems) (sym same) meant in
        only_word ledger old reads v
        (tables_mean_as (record { texts = text_means; words = word_text_means; tables = table_holds; letters = words_have_file_letters }) ledger files systems stores sealed are (first_files (old_mentions old)) tables reads before new listed old_readable made) is
