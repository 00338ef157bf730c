-- Names of parts of the checks of `reg`, by which proofs speak of them.
use Rattle.std.specs.Prelude.{ℕ, ℤ, List, None}
use Rattle.digit_tuple.specs.Steps.{StepLog}
use Rattle.digit_tuple.specs.declared.steps.StepLine.{StepLine}
use Rattle.wal_outside.specs.declared.folder.Folder.TheVariants.{Automata}
use Rattle.command_head.specs.Heads.{RegHead}
use Rattle.regex_build.specs.Expression.{Expression}
use Rattle.definitions.specs.Tracks.{Tracks}
use Rattle.definitions.specs.Trees.{Defined, Regex}
use Rattle.system_files.specs.SystemFiles.{Custom}
use Rattle.command_parts.specs.Accepting.{Success, stored}
use Rattle.command_parts.specs.Checks.{Check, Pure, Then}
use Rattle.language_commands.specs.RegOutcomes.{StepsAnswers, TracksAnswers, after_tracks}

-- of an expression; and the checks after the expression, and after the systems
abbrev pub regex_success : List ℕ → Tracks → Expression (List ℤ) → List StepLine → Success
regex_success name tracks expression lines = record { folder = Automata; name = name; entry = Defined (Regex tracks expression); lines = lines; verdict = None }

abbrev pub after_expression : StepLog → Custom → List ℕ → Tracks → Expression (List ℤ) → Check Success
after_expression admitted custom name tracks expression = Then (Pure (StepsAnswers admitted tracks expression)) (λ lines. stored custom (regex_success name tracks expression lines))

abbrev pub after_admission : Custom → RegHead → StepLog → Check Success
after_admission custom head admitted = Then (Pure (TracksAnswers custom head.alphabets)) (λ tracks. after_tracks admitted custom head.name head.body tracks)
