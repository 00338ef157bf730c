-- Names of parts of the checks of `promote`, by which proofs speak of them.
use Rattle.std.specs.Prelude.{ℕ, List, None}
use Rattle.digit_tuple.specs.declared.steps.StepLine.{StepLine}
use Rattle.wal_outside.specs.declared.folder.Folder.TheVariants.{Words}
use Rattle.command_head.specs.Heads.{PromoteHead}
use Rattle.morph_words.specs.Rules.{Rules}
use Rattle.definitions.specs.Trees.{Defined, Fixed, Ledger, custom_of}
use Rattle.command_parts.specs.Accepting.{Success}
use Rattle.command_parts.specs.Checks.{Check, Then}
use Rattle.word_commands.specs.MorphismChecks.{morphism_loaded}
use Rattle.word_commands.specs.PromoteOutcomes.{after_morphism}

-- what is stored and printed of a fixed point; and the checks after the head
abbrev pub fixed_success : List ℕ → Rules → List StepLine → Success
fixed_success name rules lines = record { folder = Words; name = name; entry = Defined (Fixed rules); lines = lines; verdict = None }

abbrev pub after_promote_head : ℕ → Ledger → PromoteHead → Check Success
after_promote_head limit ledger head = Then (morphism_loaded ledger head.morphism) (λ rules. after_morphism limit (custom_of ledger) head.word rules)
