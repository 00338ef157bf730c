-- Names of parts of the checks of `combine`, by which proofs speak of them.
use Rattle.std.specs.Prelude.{ℕ, List, None, Result, MatchResult}
use Rattle.digit_tuple.specs.Steps.{StepLog}
use Rattle.digit_tuple.specs.declared.steps.StepLine.{StepLine}
use Rattle.wal_outside.specs.declared.folder.Folder.TheVariants.{Words}
use Rattle.command_head.specs.Heads.{CombineHead}
use Rattle.dfa_loading.specs.Headers.{headers_of}
use Rattle.dfa_loading.specs.declared.loaded.Loaded.{Loaded}
use Rattle.formula_resolve.specs.Headers.{Headers}
use Rattle.definitions.specs.Trees.{Combine, Defined, Ledger, custom_of}
use Rattle.system_files.specs.SystemFiles.{Custom}
use Rattle.command_parts.specs.declared.refusal.Refusal.{Refusal}
use Rattle.command_parts.specs.Accepting.{Success, stored}
use Rattle.command_parts.specs.Checks.{Check, Pure, Then}
use Rattle.word_commands.specs.CombineOutcomes.{WordTracks, AreTracksOfFirst, CombinedAnswers, ShapeAnswers, listed_names, parts_from}

-- of listed automata; the systems of the word's tracks; and the checks after the steps, after the shape, and after those of sets
abbrev pub combine_success : Ledger → CombineHead → WordTracks → List StepLine → Success
combine_success ledger head tracks lines = record { folder = Words; name = head.word; entry = Defined (Combine tracks.direction tracks.named (parts_from ledger 0 head.automata)); lines = lines; verdict = None }

abbrev pub WordTracksAnswers : Custom → Headers → List (List ℕ) → Result WordTracks Refusal → Type 0
WordTracksAnswers custom h names result = MatchResult result (AreTracksOfFirst custom h names) (λ fault. ⊥)

abbrev pub after_combined : Ledger → CombineHead → List Loaded → List StepLine → Check Success
after_combined ledger head tables lines = Then (Pure (WordTracksAnswers (custom_of ledger) (headers_of tables) (listed_names head.automata))) (λ tracks. stored (custom_of ledger) (combine_success ledger head tracks lines))

abbrev pub after_shape : Ledger → CombineHead → List Loaded → StepLog → Check Success
after_shape ledger head tables admitted = Then (Pure (CombinedAnswers admitted (custom_of ledger) tables head.automata)) (λ lines. after_combined ledger head tables lines)

abbrev pub after_plain : Ledger → CombineHead → List Loaded → StepLog → Check Success
after_plain ledger head tables admitted = Then (Pure (ShapeAnswers (headers_of tables) (listed_names head.automata))) (λ shape. after_shape ledger head tables admitted)
