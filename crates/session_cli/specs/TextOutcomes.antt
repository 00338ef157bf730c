-- What a `macro` and a `morphism` do: they store a text, and the printed rules of a morphism. Their checks are the shape of the head, for a
-- `morphism` its rules, and the length of the text to store.
use Rattle.std.specs.Prelude.{ℕ, List, [], None, Result, Ok, Err, codes, ◌≡◌}
use Rattle.wal_outside.specs.declared.folder.Folder.TheVariants.{Macros, Morphisms}
use Rattle.command_head.specs.Grammar.{DerivesNamed}
use Rattle.command_head.specs.Heads.{NamedHead}
use Rattle.morph_words.specs.Faults.{Parses}
use Rattle.morph_words.specs.Printed.{printed}
use Rattle.morph_words.specs.Rules.{Rules}
use Rattle.definitions.specs.Trees.{Bytes, Ledger, custom_of}
use Rattle.system_files.specs.SystemFiles.{Custom}
use Rattle.command_parts.specs.declared.refusal.Refusal.{Refusal}
use Rattle.command_parts.specs.declared.fault.Fault.TheVariants as faults
use Rattle.command_parts.specs.Accepting.{Success, stored}
use Rattle.command_parts.specs.Checks.{Check, Pure, Then}
use Rattle.command_parts.specs.HeadAnswers.{HeadAnswers}
use Rattle.command_parts.specs.MorphismFaults.{fault_of_rules}
use Rattle.morph_words.specs.declared.fault.RulesFault.{RulesFault}

-- all checks of a `macro`
abbrev pub macro_checks : Ledger → List ℕ → Check Success
macro_checks ledger text =
    Then (Pure (HeadAnswers (DerivesNamed (codes "macro")) text)) (λ (head : NamedHead).
    stored (custom_of ledger) (record { folder = Macros; name = head.name; entry = Bytes head.body; lines = []; verdict = None }))

-- the rules of a quoted text, or where it breaks the grammar
abbrev pub RulesAnswers : List ℕ → Result Rules Refusal → Type 0
RulesAnswers body (Ok rules) = Parses body (Ok rules)
RulesAnswers body (Err refusal) = (fault : RulesFault) × (fault_of_rules fault ≡ faults.Refused refusal) × Parses body (Err fault)

-- the checks after the head
abbrev pub after_rules_head : Custom → NamedHead → Check Success
after_rules_head custom head =
    Then (Pure (RulesAnswers head.body)) (λ rules.
    stored custom (record { folder = Morphisms; name = head.name; entry = Bytes (printed rules); lines = []; verdict = None }))

-- all checks of a `morphism`
abbrev pub morphism_checks : Ledger → List ℕ → Check Success
morphism_checks ledger text = Then (Pure (HeadAnswers (DerivesNamed (codes "morphism")) text)) (λ head. after_rules_head (custom_of ledger) head)
