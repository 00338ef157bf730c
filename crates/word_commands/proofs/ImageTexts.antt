-- The image of a word has the letters of the image of its definition, so its text is that of the definition that is stored.
use Rattle.std.proofs.Common.{◌≡◌, ℕ, List, [], ◌∷◌, length, map, get_or, Ok, refl, sym, ap, ◌∙◌, subst, arith}
use Rattle.std.specs.Int.{w32}
use Rattle.std.specs.List.{All}
use Rattle.std.specs.Prelude.{FitsSigned}
use Rattle.wal_outside.specs.Files.{Files}
use Rattle.digit_tuple.specs.Steps.{StepLog}
use Rattle.digit_tuple.specs.declared.steps.StepLine.{StepLine}
use Rattle.dfa_loading.specs.Headers.{headers_of}
use Rattle.formula_build.specs.TrackSystems.{IsWordOverSystems}
use Rattle.num_system.specs.Sealed.{SystemValue, system_of}
use Rattle.num_system.specs.Tracks.{absent_system, direction_of}
use Rattle.word_output.specs.Words.{HasLetter, WordValue}
use Rattle.definitions.specs.Named.{IsSystemNamed}
use Rattle.definitions.specs.Texts.{HasTreeText, Stores}
use Rattle.definitions.specs.TreeMeanings.{tree_letter}
use Rattle.definitions.specs.Trees.{Image, Ledger, custom_of, tree_of}
use Rattle.definitions.proofs.WordValueTexts.{IsWordNamed, image_word_text, same_image, text_of_word}
use Rattle.system_files.specs.SystemFiles.{Custom}
use Rattle.word_commands.specs.declared.image.ReadImage.{ReadImage}
use Rattle.word_commands.specs.ImageMakes.{IsImaged, old_system_of, old_tracks_of}
use Rattle.word_commands.specs.ImageOutcomes.{WordTrack}
use Rattle.word_commands.specs.OldWordMakes.{AreTablesOfOld}
use Rattle.command_parts.specs.TableReads.{library_with}
use Rattle.command_parts.specs.WordPrinting.{HaveNames, named_text}
use Rattle.word_commands.proofs.ImageCheckNames.{TrackAnswers}
use Rattle.command_parts.proofs.MeantNames.{found_meant, named_digits}
use Rattle.word_commands.proofs.OldWords.{old_means, old_over}
use Rattle.command_parts.proofs.TableMeanings.{HasLettersAs}

only_system : (systems : List SystemValue) → length systems ≡ 1 → systems ≡ get_or systems 0 absent_system ∷ []
only_system [] one = absurd (omega (arith, one))
only_system (s ∷ []) one = refl
only_system (s ∷ t ∷ systems) one = absurd (omega (arith, one))

pub only_name : (names : List (List ℕ)) → length names ≡ 1 → names ≡ get_or names 0 [] ∷ []
only_name [] one = absurd (omega (arith, one))
only_name (name ∷ []) one = refl
only_name (name ∷ other ∷ names) one = absurd (omega (arith, one))

-- a system under a name
abbrev pub track_over : List ℕ → SystemValue → WordTrack
track_over name s = record { direction = s.direction; system = record { name = name; system = system_of s } }

-- a word over one system under its name
module _ (name : List ℕ) (s : SystemValue) (names : List (List ℕ)) (v : WordValue) (names_are : names ≡ name ∷ []) (systems_are : v.systems ≡ s ∷ []) where
  text_named : named_text names v ≡ text_of_word s.direction ((track_over name s).system ∷ []) v
  text_named = λ i. named_text (names_are i) (record { systems = systems_are i; function = v.function })

module _ (read : ReadImage) (files : Files) (listed : AreTablesOfOld read.old files) (one_track : length (old_tracks_of read) ≡ 1) (custom : Custom) (admitted : StepLog) (word : WordValue) (lines : List StepLine) (is : IsImaged admitted custom read word lines) where
  abbrev pub name : List ℕ
  name = old_system_of read

  abbrev pub old_word : WordValue
  old_word = is.steps.before.word

  over : IsWordOverSystems (library_with is.steps.before.reads is.steps.before.systems) (old_tracks_of read) old_word
  over =
      old_over read.old.name read.old.mentioned.tables.items files listed is.steps.before.systems is.steps.before.sealed custom is.steps.before.meant is.has is.steps.before.reads admitted is.steps.before.reading is.steps.before.read old_word is.steps.before.word_is

  abbrev pub system : SystemValue
  system = get_or old_word.systems 0 absent_system

  names_are : old_tracks_of read ≡ name ∷ []
  names_are = only_name (old_tracks_of read) one_track

  systems_are : word.systems ≡ system ∷ []
  systems_are = is.image.systems ∙ only_system old_word.systems (over.count ∙ one_track)

  meant : IsSystemNamed custom name system.direction (system_of system)
  meant = found_meant custom is.steps.before.systems name system is.steps.before.meant (over.each 0 (omega (arith, one_track)))

  -- the names are those of the word's systems
  pub image_names : HaveNames (old_tracks_of read) word.systems
  image_names =
      subst (λ (ns : List (List ℕ)). HaveNames ns word.systems) (sym names_are)
      (subst (HaveNames (name ∷ [])) (sym systems_are) (record { count = refl; digits = (named_digits custom name system.direction (system_of system) meant, tt) }))

  -- and mean the system of its track
  pub image_track : TrackAnswers custom (headers_of read.old.mentioned.tables.items) read.old.name (Ok (track_over name system))
  image_track = (names_are, meant)

  module _ (ledger : Ledger) (stores : Stores ledger files) (same : custom_of ledger ≡ custom) where
    -- what is under the old name
    pub old_entry : HasLettersAs ledger read.old.name old_word
    old_entry =
        old_means read.old.name read.old.mentioned.tables.items files listed is.steps.before.systems is.steps.before.sealed custom is.steps.before.meant is.has is.steps.before.reads admitted is.steps.before.reading is.steps.before.read ledger stores same old_word is.steps.before.word_is

    -- the text is that of the image of its definition
    pub image_text : All (λ letter. FitsSigned w32 letter) word.function.letters → HasTreeText (custom_of ledger) (Image system.direction (track_over name system).system read.morphism (tree_of old_entry.entry)) (named_text (old_tracks_of read) word)
    image_text fits =
        let tree = tree_of old_entry.entry in
        let named : IsWordNamed (custom_of ledger) system.direction ((track_over name system).system ∷ []) word = record {
          word = is.image.word_is;
          fits = fits;
          are = (subst (λ (c : Custom). IsSystemNamed c name system.direction (system_of system)) (sym same) meant, tt);
          direction = ap direction_of systems_are;
          systems_are = sym (ap (λ (ss : List SystemValue). map system_of ss) systems_are);
        } in
        subst (HasTreeText (custom_of ledger) (Image system.direction (track_over name system).system read.morphism tree)) (sym (text_named name system (old_tracks_of read) word names_are systems_are))
        (image_word_text (custom_of ledger) system.direction (track_over name system).system read.morphism tree word named
        (λ n letter. (
          λ has. same_image read.morphism (λ m c. HasLetter old_word (m ∷ []) c) (λ m c. tree_letter (custom_of ledger) tree (m ∷ []) c) (λ m c. (old_entry.same (m ∷ []) c).0) n letter ((is.image.letters n letter).0 has),
          λ lettered. (is.image.letters n letter).1 (same_image read.morphism (λ m c. tree_letter (custom_of ledger) tree (m ∷ []) c) (λ m c. HasLetter old_word (m ∷ []) c) (λ m c. (old_entry.same (m ∷ []) c).1) n letter lettered),
        )))
