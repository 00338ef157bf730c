-- What a `transduce` does, by its checks in their order: the shape of its head, the file of the transducer, that of the old word, the word's
-- systems, that it has one track, over a base whose most significant digit comes first, its steps, and the length of the text to store.
use Rattle.std.specs.Prelude.{ℕ, List, Some, codes}
use Rattle.digit_tuple.specs.Steps.{StepLog}
use Rattle.digit_tuple.specs.declared.direction.Direction.TheVariants.{Msd}
use Rattle.command_head.specs.Grammar.{DerivesImage}
use Rattle.command_head.specs.Heads.{ImageHead}
use Rattle.dfa_loading.specs.Headers.{headers_of}
use Rattle.dfa_loading.specs.declared.loaded.Loaded.{Loaded}
use Rattle.formula_resolve.specs.FirstMentions.{first_files, first_systems}
use Rattle.transducer_reading.specs.Transducers.{Transducer}
use Rattle.definitions.specs.Trees.{Ledger, Transduced, custom_of}
use Rattle.word_commands.specs.declared.base_system.BaseSystem.{BaseSystem}
use Rattle.command_parts.specs.Accepting.{Success}
use Rattle.word_commands.specs.BaseWords.{named_base, over_base}
use Rattle.command_parts.specs.Checks.{Check, Pure, Then, IsSingle}
use Rattle.command_parts.specs.FileChecks.{files_loaded}
use Rattle.command_parts.specs.HeadAnswers.{HeadAnswers}
use Rattle.word_commands.specs.ImageOutcomes.{old_mentions}
use Rattle.word_commands.specs.OldWordSteps.{made_of_old}
use Rattle.command_parts.specs.SystemChecks.{systems_known}
use Rattle.word_commands.specs.TransduceSteps.{DoesTransduce}
use Rattle.word_commands.specs.TransducerChecks.{transducer_loaded}

-- the checks after the base: what is stored is the transducer and the definition that the old name means
abbrev pub after_transduced_base : Ledger → ImageHead → Transducer → List Loaded → StepLog → BaseSystem → Check Success
after_transduced_base ledger head t tables admitted over = made_of_old ledger head.word head.old (DoesTransduce t) (λ tree. Transduced (named_base over) t tree) tables admitted

-- those after the systems, after the table, after the transducer, and after the head
abbrev pub after_transduced_systems : Ledger → ImageHead → Transducer → List Loaded → StepLog → Check Success
after_transduced_systems ledger head t tables admitted = Then (over_base (Some Msd) (headers_of tables) head.old) (λ over. after_transduced_base ledger head t tables admitted over)

abbrev pub after_transduced_table : ℕ → Ledger → ImageHead → Transducer → List Loaded → Check Success
after_transduced_table limit ledger head t tables = Then (systems_known limit (custom_of ledger) (first_systems (headers_of tables) (old_mentions head.old))) (λ admitted. after_transduced_systems ledger head t tables admitted)

abbrev pub after_transducer : ℕ → Ledger → ImageHead → Transducer → Check Success
after_transducer limit ledger head t = Then (files_loaded ledger (first_files (old_mentions head.old))) (λ tables. after_transduced_table limit ledger head t tables)

abbrev pub after_transduce_head : ℕ → Ledger → ImageHead → Check Success
after_transduce_head limit ledger head = Then (transducer_loaded ledger head.mapping) (λ t. after_transducer limit ledger head t)

-- all checks of a `transduce`
abbrev pub transduce_checks : ℕ → Ledger → List ℕ → Check Success
transduce_checks limit ledger text = Then (Pure (HeadAnswers (DerivesImage (codes "transduce")) text)) (λ head. after_transduce_head limit ledger head)

-- a `transduce` has at most one proper outcome
abbrev pub TransduceHasOneOutcome : Type 0
TransduceHasOneOutcome = (limit : ℕ) (ledger : Ledger) (text : List ℕ) → IsSingle (transduce_checks limit ledger text)
