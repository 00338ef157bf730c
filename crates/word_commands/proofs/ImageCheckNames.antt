-- Names of parts of the checks of `image`, by which proofs speak of them.
use Rattle.std.specs.Prelude.{◌≡◌, ℕ, List, None, Some, Result, MatchResult}
use Rattle.digit_tuple.specs.Steps.{StepLog}
use Rattle.digit_tuple.specs.declared.steps.StepLine.{StepLine}
use Rattle.wal_outside.specs.declared.folder.Folder.TheVariants.{Words}
use Rattle.command_head.specs.Heads.{ImageHead}
use Rattle.dfa_loading.specs.Headers.{headers_of}
use Rattle.dfa_loading.specs.declared.loaded.Loaded.{Loaded}
use Rattle.formula_resolve.specs.FirstMentions.{first_files}
use Rattle.formula_resolve.specs.Headers.{Headers}
use Rattle.morph_words.specs.Rules.{Rules}
use Rattle.definitions.specs.Trees.{Defined, Entry, Image, Ledger, custom_of, tree_of}
use Rattle.system_files.specs.SystemFiles.{Custom}
use Rattle.command_parts.specs.declared.refusal.Refusal.{Refusal}
use Rattle.command_parts.specs.Accepting.{Success, stored}
use Rattle.command_parts.specs.Checks.{Check, Pure, Then}
use Rattle.command_parts.specs.FileChecks.{files_loaded}
use Rattle.word_commands.specs.ImageOutcomes.{ImagedAnswers, IsTrackOf, LengthsAnswers, WordTrack, after_old_table, old_mentions}

-- of an image; the system of the word's track, and the definition that the name of the old word means; and the checks after the steps, after
-- the track, after the lengths, after the arity, and after the morphism
abbrev pub image_success : ImageHead → WordTrack → Rules → Entry → List StepLine → Success
image_success head track rules entry lines = record { folder = Words; name = head.word; entry = Defined (Image track.direction track.system rules (tree_of entry)); lines = lines; verdict = None }

abbrev pub TrackAnswers : Custom → Headers → List ℕ → Result WordTrack Refusal → Type 0
TrackAnswers custom h old result = MatchResult result (IsTrackOf custom h old) (λ fault. ⊥)

abbrev pub OldAnswers : Ledger → List ℕ → Result Entry Refusal → Type 0
OldAnswers ledger old result = MatchResult result (λ entry. ledger Words old ≡ Some entry) (λ fault. ⊥)

abbrev pub after_image_steps : Ledger → ImageHead → Rules → WordTrack → List StepLine → Check Success
after_image_steps ledger head rules track lines = Then (Pure (OldAnswers ledger head.old)) (λ entry. stored (custom_of ledger) (image_success head track rules entry lines))

abbrev pub after_track : Ledger → ImageHead → Rules → List Loaded → StepLog → WordTrack → Check Success
after_track ledger head rules tables admitted track = Then (Pure (ImagedAnswers admitted (custom_of ledger) tables head.old track.system.name rules)) (λ lines. after_image_steps ledger head rules track lines)

abbrev pub after_lengths : Ledger → ImageHead → Rules → List Loaded → StepLog → Check Success
after_lengths ledger head rules tables admitted = Then (Pure (TrackAnswers (custom_of ledger) (headers_of tables) head.old)) (λ track. after_track ledger head rules tables admitted track)

abbrev pub after_one_track : Ledger → ImageHead → Rules → List Loaded → StepLog → Check Success
after_one_track ledger head rules tables admitted = Then (Pure (LengthsAnswers rules)) (λ uniform. after_lengths ledger head rules tables admitted)

abbrev pub after_image_morphism : ℕ → Ledger → ImageHead → Rules → Check Success
after_image_morphism limit ledger head rules = Then (files_loaded ledger (first_files (old_mentions head.old))) (λ tables. after_old_table limit ledger head rules tables)
