-- From what each part of the code makes of an image to what all checks of its command make.
use Rattle.std.proofs.Common.{◌≡◌, ℕ, Bool, List, [], length, Result, Ok, Err, codes, inl, inr, sym, ap, ◌∙◌}
use Rattle.wal_outside.specs.Files.{Files}
use Rattle.wal_outside.specs.Places.{Place}
use Rattle.wal_outside.specs.declared.folder.Folder.TheVariants.{Words}
use Rattle.digit_tuple.specs.Steps.{StepLog}
use Rattle.digit_tuple.specs.declared.steps.StepLine.{StepLine}
use Rattle.command_head.specs.Breaks.{HasHead}
use Rattle.command_head.specs.Grammar.{DerivesImage}
use Rattle.command_head.specs.HeadViews.{image_view}
use Rattle.command_head.specs.Heads.{ImageHead}
use Rattle.command_head.specs.declared.fault.HeadFault.{HeadFault}
use Rattle.command_head.specs.declared.head.ImageParts.{ImageParts}
use Rattle.dfa_loading.specs.Headers.{headers_of}
use Rattle.dfa_loading.specs.declared.loaded.Loaded.{Loaded}
use Rattle.formula_resolve.specs.FirstMentions.{first_files, first_systems}
use Rattle.formula_resolve.specs.Headers.{word_tracks}
use Rattle.morph_words.specs.Rules.{Rules}
use Rattle.morph_words.specs.Uniform.{HasLength, IsImageLength}
use Rattle.definitions.proofs.CustomTexts.{found_custom}
use Rattle.definitions.specs.Trees.{Entry, Ledger, ledger_of, custom_of}
use Rattle.system_files.specs.SystemFiles.{Custom}
use Rattle.word_commands.specs.declared.image.ReadImage.{ReadImage}
use Rattle.command_parts.specs.declared.fault.Fault.{Fault}
use Rattle.command_parts.specs.declared.file_change.Made.{Made}
use Rattle.command_parts.specs.declared.file_change.FileChange.{FileChange}
use Rattle.command_parts.specs.Accepting.{Success, stored}
use Rattle.command_parts.specs.Checks.{Pure, Fails}
use Rattle.command_parts.specs.FileChecks.{FilesAnswers, files_loaded}
use Rattle.command_parts.specs.HeadAnswers.{HeadAnswers, fault_of_head}
use Rattle.word_commands.specs.ImageMakes.{MakesAfterOldSystems, head_of}
use Rattle.word_commands.specs.ImageOutcomes.{WordTrack, OneTrackAnswers, LengthsAnswers, ImagedAnswers, old_mentions, after_old_systems, after_old_table, after_image_head, image_checks}
use Rattle.word_commands.specs.MorphismChecks.{MorphismAnswers, morphism_loaded}
use Rattle.command_parts.specs.FileChanges.{Makes, ChangesFile}
use Rattle.word_commands.specs.OldWordMakes.{IsLoadedOld}
use Rattle.command_parts.specs.SystemChecks.{SystemsAnswers, systems_known}
use Rattle.word_commands.proofs.ImageCheckNames.{TrackAnswers, OldAnswers, image_success, after_image_steps, after_track, after_lengths, after_one_track, after_image_morphism}
use Rattle.command_parts.proofs.CheckSteps.{fails_first, fails_after, makes_after, changes_after}
use Rattle.command_parts.proofs.StoredLedgers.{files_store}
use Rattle.command_parts.proofs.FilesElsewhere.{listed_elsewhere}
use Rattle.command_parts.proofs.StoreReads.{IsOwn, own_made}
use Rattle.command_parts.proofs.TextReads.{with_bases}
use Rattle.command_parts.proofs.HeadSteps.{head_unread}

-- where the head breaks the grammar
pub image_broken : (limit : ℕ) (ledger : Ledger) (text : List ℕ) (fault : HeadFault) → HasHead {X = ImageParts} (DerivesImage (codes "image")) image_view text (Err fault) → Fails (image_checks limit ledger text) (fault_of_head fault)
image_broken limit ledger text fault breaks = fails_first (Pure (HeadAnswers (DerivesImage (codes "image")) text)) (λ head. after_image_head limit ledger head) (fault_of_head fault) (head_unread (DerivesImage (codes "image")) image_view text fault breaks)

-- what is accepted is among words, under the name of the head
record IsImageAt (head : ImageHead) (success : Success) : Type 0 where
  folder_is : Words ≡ success.folder
  name_is : head.word ≡ success.name

image_at : (limit : ℕ) (ledger : Ledger) (head : ImageHead) (success : Success) → (after_image_head limit ledger head).answers (Ok success) → IsImageAt head success
image_at limit ledger head success (rules, read, (tables, files, (admitted, systems, (one, has, (uniform, lengths, (track, over, (lines, imaged, (entry, there, (is, text))))))))) =
    record { folder_is = sym (ap (λ (s : Success). s.folder) is); name_is = sym (ap (λ (s : Success). s.name) is) }

-- a command whose head is this one
pub image_changed : (limit : ℕ) (ledger : Ledger) (text : List ℕ) (shown : Bool) (head : ImageHead) (change : FileChange) → HeadAnswers (DerivesImage (codes "image")) text (Ok head) → change.folder ≡ Words → change.name ≡ head.word
    → Makes (custom_of ledger) (after_image_head limit ledger head) shown (Ok change.made) → ChangesFile (custom_of ledger) (image_checks limit ledger text) shown (Ok change)
image_changed limit ledger text shown head change spells folder_is name_is made =
    let at : IsImageAt head made.success = image_at limit ledger head made.success made.answers in
    changes_after (custom_of ledger) (Pure (HeadAnswers (DerivesImage (codes "image")) text)) (λ h. after_image_head limit ledger h) head shown (Ok change) spells (record { made = made; folder_is = folder_is ∙ at.folder_is; name_is = name_is ∙ at.name_is })

pub image_failed : (limit : ℕ) (ledger : Ledger) (text : List ℕ) (shown : Bool) (head : ImageHead) (fault : Fault) → HeadAnswers (DerivesImage (codes "image")) text (Ok head) → Fails (after_image_head limit ledger head) fault → ChangesFile (custom_of ledger) (image_checks limit ledger text) shown (Err fault)
image_failed limit ledger text shown head fault spells refused = changes_after (custom_of ledger) (Pure (HeadAnswers (DerivesImage (codes "image")) text)) (λ h. after_image_head limit ledger h) head shown (Err fault) spells refused

module _ (limit : ℕ) (ledger : Ledger) (head : ImageHead) where
  -- its morphism is not loaded
  pub morphism_unloaded : (fault : Fault) → Fails (morphism_loaded ledger head.mapping) fault → Fails (after_image_head limit ledger head) fault
  morphism_unloaded fault refused = fails_first (morphism_loaded ledger head.mapping) (λ rules. after_image_morphism limit ledger head rules) fault refused

  -- the table of the old word is not
  pub old_unloaded : (rules : Rules) (fault : Fault) → MorphismAnswers ledger head.mapping (Ok rules) → Fails (files_loaded ledger (first_files (old_mentions head.old))) fault → Fails (after_image_head limit ledger head) fault
  old_unloaded rules fault read refused =
      fails_after (morphism_loaded ledger head.mapping) (λ rs. after_image_morphism limit ledger head rs) rules fault read
      (fails_first (files_loaded ledger (first_files (old_mentions head.old))) (λ tables. after_old_table limit ledger head rules tables) fault refused)

  -- what is made where both are
  pub image_loaded : (rules : Rules) (tables : List Loaded) (shown : Bool) (result : Result Made Fault) → MorphismAnswers ledger head.mapping (Ok rules) → FilesAnswers ledger (first_files (old_mentions head.old)) (Ok tables)
      → Makes (custom_of ledger) (after_old_table limit ledger head rules tables) shown result → Makes (custom_of ledger) (after_image_head limit ledger head) shown result
  image_loaded rules tables shown result read there makes =
      makes_after (custom_of ledger) (morphism_loaded ledger head.mapping) (λ rs. after_image_morphism limit ledger head rs) rules shown result read
      (makes_after (custom_of ledger) (files_loaded ledger (first_files (old_mentions head.old))) (λ ts. after_old_table limit ledger head rules ts) tables shown result there makes)

  module _ (rules : Rules) (tables : List Loaded) where
    -- a system of its tracks is refused
    pub old_unknown : (fault : Fault) → Fails (systems_known limit (custom_of ledger) (first_systems (headers_of tables) (old_mentions head.old))) fault → Fails (after_old_table limit ledger head rules tables) fault
    old_unknown fault refused = fails_first (systems_known limit (custom_of ledger) (first_systems (headers_of tables) (old_mentions head.old))) (λ admitted. after_old_systems ledger head rules tables admitted) fault refused

    -- what is made where they are known
    pub old_known : (admitted : StepLog) (shown : Bool) (result : Result Made Fault) → SystemsAnswers limit (custom_of ledger) (first_systems (headers_of tables) (old_mentions head.old)) (Ok admitted)
        → Makes (custom_of ledger) (after_old_systems ledger head rules tables admitted) shown result → Makes (custom_of ledger) (after_old_table limit ledger head rules tables) shown result
    old_known admitted shown result known makes =
        makes_after (custom_of ledger) (systems_known limit (custom_of ledger) (first_systems (headers_of tables) (old_mentions head.old))) (λ log. after_old_systems ledger head rules tables log) admitted shown result known makes

module _ (ledger : Ledger) (head : ImageHead) (rules : Rules) (tables : List Loaded) (admitted : StepLog) where
  -- the word has not one track
  pub tracks_refused : (fault : Fault) → Fails (Pure (OneTrackAnswers (headers_of tables) head.old)) fault → Fails (after_old_systems ledger head rules tables admitted) fault
  tracks_refused fault refused = fails_first (Pure (OneTrackAnswers (headers_of tables) head.old)) (λ one. after_one_track ledger head rules tables admitted) fault refused

  module _ (one_track : length (word_tracks (headers_of tables) head.old) ≡ 1) where
    -- the images have not one length
    pub lengths_refused : (fault : Fault) → Fails (Pure (LengthsAnswers rules)) fault → Fails (after_old_systems ledger head rules tables admitted) fault
    lengths_refused fault refused =
        fails_after (Pure (OneTrackAnswers (headers_of tables) head.old)) (λ one. after_one_track ledger head rules tables admitted) tt fault one_track
        (fails_first (Pure (LengthsAnswers rules)) (λ uniform. after_lengths ledger head rules tables admitted) fault refused)

    module _ (uniform : (k : ℕ) × HasLength IsImageLength rules k) (track : WordTrack) (over : TrackAnswers (custom_of ledger) (headers_of tables) head.old (Ok track)) where
      -- what is made where they have
      pub image_tracked : (shown : Bool) (result : Result Made Fault) → Makes (custom_of ledger) (after_track ledger head rules tables admitted track) shown result → Makes (custom_of ledger) (after_old_systems ledger head rules tables admitted) shown result
      image_tracked shown result makes =
          makes_after (custom_of ledger) (Pure (OneTrackAnswers (headers_of tables) head.old)) (λ one. after_one_track ledger head rules tables admitted) tt shown result one_track
          (makes_after (custom_of ledger) (Pure (LengthsAnswers rules)) (λ is. after_lengths ledger head rules tables admitted) tt shown result uniform
          (makes_after (custom_of ledger) (Pure (TrackAnswers (custom_of ledger) (headers_of tables) head.old)) (λ t. after_track ledger head rules tables admitted t) track shown result over makes))

      -- the steps are refused, or a letter has no rule
      pub image_stopped : (fault : Fault) → Fails (Pure (ImagedAnswers admitted (custom_of ledger) tables head.old track.system.name rules)) fault → Fails (after_track ledger head rules tables admitted track) fault
      image_stopped fault refused = fails_first (Pure (ImagedAnswers admitted (custom_of ledger) tables head.old track.system.name rules)) (λ lines. after_image_steps ledger head rules track lines) fault refused

      -- what is made where they are done
      pub image_done : (lines : List StepLine) (entry : Entry) (shown : Bool) (result : Result Made Fault) → ImagedAnswers admitted (custom_of ledger) tables head.old track.system.name rules (Ok lines) → OldAnswers ledger head.old (Ok entry)
          → Makes (custom_of ledger) (stored (custom_of ledger) (image_success head track rules entry lines)) shown result → Makes (custom_of ledger) (after_track ledger head rules tables admitted track) shown result
      image_done lines entry shown result imaged there makes =
          makes_after (custom_of ledger) (Pure (ImagedAnswers admitted (custom_of ledger) tables head.old track.system.name rules)) (λ ls. after_image_steps ledger head rules track ls) lines shown result imaged
          (makes_after (custom_of ledger) (Pure (OldAnswers ledger head.old)) (λ e. stored (custom_of ledger) (image_success head track rules e lines)) entry shown result there makes)

  -- no file is read after the systems
  pub no_image_read : (place : Place) → (after_old_systems ledger head rules tables admitted).reads place → ⊥
  no_image_read place (inl read) = read
  no_image_read place (inr (one, has, inl read)) = read
  no_image_read place (inr (one, has, inr (uniform, is, inl read))) = read
  no_image_read place (inr (one, has, inr (uniform, is, inr (track, over, inl read)))) = read
  no_image_read place (inr (one, has, inr (uniform, is, inr (track, over, inr (lines, imaged, inl read))))) = read
  no_image_read place (inr (one, has, inr (uniform, is, inr (track, over, inr (lines, imaged, inr (entry, there, read)))))) = read

-- so what is made is refused by no fault of the store
pub image_own : (admitted : StepLog) (shown : Bool) (read : ReadImage) (custom : Custom) (r : Result Made Fault) → IsLoadedOld read.old → MakesAfterOldSystems admitted shown read custom r → IsOwn r
image_own admitted shown read custom r is makes =
    let files : Files = with_bases is.0 custom in
    let ledger : Ledger = ledger_of files in
    let tables = read.old.mentioned.tables.items in
    own_made (custom_of ledger) (after_old_systems ledger (head_of [] [] read) read.morphism tables admitted) (no_image_read ledger (head_of [] [] read) read.morphism tables admitted) shown r
    (makes ledger files [] [] (files_store files) (found_custom files) (listed_elsewhere is.0 custom (first_files (old_mentions read.old.name)) tables is.1.listed))
