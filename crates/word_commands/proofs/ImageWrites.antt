-- From the image of a word whose table is loaded to what the checks after its systems make.
use Rattle.std.proofs.Common.{◌≡◌, ℕ, Bool, true, List, [], ◌∷◌, length, get_or, Result, Ok, Err, refl, ◌∙◌, subst, arith}
use Rattle.std.specs.Int.{w32}
use Rattle.std.specs.List.{All, AllByRecursion, flat_map}
use Rattle.std.specs.Prelude.{FitsSigned}
use Rattle.wal_outside.specs.Files.{Files}
use Rattle.wal_outside.specs.declared.folder.Folder.TheVariants.{Bases}
use Rattle.command_head.specs.Heads.{ImageHead}
use Rattle.digit_tuple.specs.Steps.{StepLog}
use Rattle.digit_tuple.specs.declared.steps.StepLine.{StepLine}
use Rattle.dfa_loading.specs.Headers.{headers_of}
use Rattle.dfa_loading.specs.Loading.{AreListedBy}
use Rattle.named_systems.specs.NamedSystems.{NamedSystem, HasSystemIn}
use Rattle.formula_resolve.specs.FirstMentions.{first_files, first_systems, mentioned_systems}
use Rattle.formula_resolve.specs.Headers.{Headers, word_tracks}
use Rattle.morph_words.specs.Uniform.{HasLength, IsImageLength}
use Rattle.num_system.specs.Sealed.{SystemValue}
use Rattle.word_output.specs.Words.{WordValue}
use Rattle.definitions.proofs.CustomTexts.{stored_custom}
use Rattle.definitions.specs.Texts.{HasTreeText, Stores}
use Rattle.definitions.specs.Trees.{Image, Ledger, custom_of, tree_of}
use Rattle.system_files.specs.SystemFiles.{Custom}
use Rattle.command_parts.specs.declared.fault.Fault.{Fault}
use Rattle.word_commands.specs.declared.image.ReadImage.{ReadImage}
use Rattle.command_parts.specs.declared.file_change.Made.{Made}
use Rattle.command_parts.specs.declared.step_options.StepOptions.{StepOptions}
use Rattle.command_parts.specs.Accepting.{stored}
use Rattle.command_parts.specs.Checks.{Pure, Fails}
use Rattle.command_parts.specs.FormulaLoads.{HasSystems}
use Rattle.command_parts.specs.FormulaSteps.{AreMeant}
use Rattle.word_commands.specs.ImageMakes.{IsImaged, IsReadBy, MakesAfterOld, head_of, old_system_of, old_tracks_of}
use Rattle.word_commands.specs.ImageOutcomes.{WordTrack, ImagedAnswers, old_mentions, after_image_head, after_old_systems, after_old_table}
use Rattle.command_parts.specs.FileChanges.{Makes}
use Rattle.word_commands.specs.OldWordMakes.{AreTablesOfOld, systems_of_old}
use Rattle.command_parts.specs.WordPrinting.{Keeps, named_text}
use Rattle.word_commands.proofs.ImageCheckNames.{TrackAnswers, image_success}
use Rattle.word_commands.proofs.ImageChains.{image_loaded, image_tracked, image_stopped, image_done}
use Rattle.command_parts.proofs.StoringTexts.{kept_text}
use Rattle.word_commands.proofs.ImageTexts.{image_text, image_track, old_entry, old_word, only_name, system, track_over}
use Rattle.command_parts.proofs.MeantNames.{found_meant}
use Rattle.command_parts.proofs.MentionedTables.{all_once, all_parts}
use Rattle.command_parts.proofs.TableMeanings.{HasLettersAs}

-- what is made of a head whose morphism and word are read
pub image_read_made : (options : StepOptions) (ledger : Ledger) (head : ImageHead) (read : ReadImage) (found : Files) (result : Result Made Fault) → Stores ledger found → IsReadBy head found read → MakesAfterOld options read (found Bases) result
    → Makes (custom_of ledger) (after_image_head options.limit ledger head) options.shown result
image_read_made options ledger head read found result stores is makes =
    let there = makes ledger found head.word head.mapping stores (stored_custom ledger found stores) is.old.there.listed in
    let P : List ℕ → Type 0 = λ old. Makes (custom_of ledger) (after_old_table options.limit ledger (record { word = head.word; mapping = head.mapping; old = old }) read.morphism read.old.mentioned.tables.items) options.shown result in
    image_loaded options.limit ledger head read.morphism read.old.mentioned.tables.items options.shown result (found, stores, is.rules)
    (found, stores, subst (λ (old : List ℕ). AreListedBy found (first_files (old_mentions old)) read.old.mentioned.tables.items) is.old.name_is is.old.there.listed) (subst P is.old.name_is there)

-- a system is under the name of the one track
tracked : (custom : Custom) (systems : List NamedSystem) (names : List (List ℕ)) → AreMeant custom systems → AllByRecursion (HasSystemIn systems) names → length names ≡ 1 → (h : Headers) (old : List ℕ) → word_tracks h old ≡ names
    → (s : SystemValue) × TrackAnswers custom h old (Ok (track_over (get_or names 0 []) s))
tracked custom systems [] meant has one h old is = absurd (omega (arith, one))
tracked custom systems (name ∷ names) meant has one h old is = (has.0.0, (is ∙ only_name (name ∷ names) one, found_meant custom systems name has.0.0 meant has.0.1))

old_tracked : (custom : Custom) (systems : List NamedSystem) (h : Headers) (old : List ℕ) → AreMeant custom systems → HasSystems (first_systems h (old_mentions old)) systems → length (word_tracks h old) ≡ 1
    → (s : SystemValue) × TrackAnswers custom h old (Ok (track_over (get_or (word_tracks h old) 0 []) s))
old_tracked custom systems h old meant has one =
    let every : AllByRecursion (HasSystemIn systems) (flat_map (mentioned_systems h) (old_mentions old)) = (all_once (HasSystemIn systems) [] (flat_map (mentioned_systems h) (old_mentions old)) has.mentioned).1 in
    tracked custom systems (word_tracks h old) meant (all_parts (HasSystemIn systems) (word_tracks h old) [] every).0 one h old refl

module _ (ledger : Ledger) (files : Files) (stores : Stores ledger files) (read : ReadImage) (listed : AreTablesOfOld read.old files) (one_track : length (old_tracks_of read) ≡ 1) (uniform : (k : ℕ) × HasLength IsImageLength read.morphism k)
    (name morphism : List ℕ) (admitted : StepLog) where
  -- the steps are refused, or a letter has no rule
  pub image_unmade : (systems : List NamedSystem) → AreMeant (custom_of ledger) systems → HasSystems (systems_of_old read.old) systems → (fault : Fault)
      → Fails (Pure (ImagedAnswers admitted (custom_of ledger) read.old.mentioned.tables.items read.old.name (old_system_of read) read.morphism)) fault → Fails (after_old_systems ledger (head_of name morphism read) read.morphism read.old.mentioned.tables.items admitted) fault
  image_unmade systems meant has fault refused =
      let t = old_tracked (custom_of ledger) systems (headers_of read.old.mentioned.tables.items) read.old.name meant has one_track in
      let track : WordTrack = track_over (old_system_of read) t.0 in
      image_tracked ledger (head_of name morphism read) read.morphism read.old.mentioned.tables.items admitted one_track uniform track t.1 true (Err fault)
      (image_stopped ledger (head_of name morphism read) read.morphism read.old.mentioned.tables.items admitted one_track uniform track t.1 fault refused)

  module _ (word : WordValue) (lines : List StepLine) (is : IsImaged admitted (custom_of ledger) read word lines) (fits : All (λ letter. FitsSigned w32 letter) word.function.letters) where
    abbrev track : WordTrack
    track = track_over (old_system_of read) (system read files listed one_track (custom_of ledger) admitted word lines is)

    over : TrackAnswers (custom_of ledger) (headers_of read.old.mentioned.tables.items) read.old.name (Ok track)
    over = image_track read files listed one_track (custom_of ledger) admitted word lines is

    abbrev entry : HasLettersAs ledger read.old.name (old_word read files listed one_track (custom_of ledger) admitted word lines is)
    entry = old_entry read files listed one_track (custom_of ledger) admitted word lines is ledger stores refl

    has : HasTreeText (custom_of ledger) (Image track.direction track.system read.morphism (tree_of entry.entry)) (named_text (old_tracks_of read) word)
    has = image_text read files listed one_track (custom_of ledger) admitted word lines is ledger stores refl fits

    by_text : (shown : Bool) (result : Result Made Fault) → Keeps (old_tracks_of read) word shown lines result
        → Makes (custom_of ledger) (stored (custom_of ledger) (image_success (head_of name morphism read) track read.morphism entry.entry lines)) shown result
    by_text shown result keeps = kept_text (custom_of ledger) (image_success (head_of name morphism read) track read.morphism entry.entry lines) (old_tracks_of read) word shown result refl has keeps

    -- the text is stored, or it is too long
    pub image_kept : (shown : Bool) (result : Result Made Fault) → Keeps (old_tracks_of read) word shown lines result → Makes (custom_of ledger) (after_old_systems ledger (head_of name morphism read) read.morphism read.old.mentioned.tables.items admitted) shown result
    image_kept shown result keeps =
        image_tracked ledger (head_of name morphism read) read.morphism read.old.mentioned.tables.items admitted one_track uniform track over shown result
        (image_done ledger (head_of name morphism read) read.morphism read.old.mentioned.tables.items admitted one_track uniform track over lines entry.entry shown result (word, is.steps) entry.there (by_text shown result keeps))
