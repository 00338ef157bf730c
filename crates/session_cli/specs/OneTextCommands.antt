-- A `macro` and a `morphism` have one outcome each.
use Rattle.std.proofs.Common.{ℕ, List, Result, Ok, Err, codes, refl}
use Rattle.wal_outside.specs.declared.folder.Folder.TheVariants.{Macros, Morphisms}
use Rattle.command_head.specs.Grammar.{DerivesNamed}
use Rattle.command_head.specs.Heads.{NamedHead}
use Rattle.command_head.proofs.NamedHeads.{one_named}
use Rattle.command_head.proofs.OneFault.{one_head}
use Rattle.morph_words.specs.Faults.{Parses}
use Rattle.morph_words.specs.Printed.{printed}
use Rattle.morph_words.specs.Rules.{Rules}
use Rattle.morph_words.specs.declared.fault.RulesFault.TheVariants as rules_faults
use Rattle.morph_words.proofs.OneParse.{one_answer}
use Rattle.definitions.specs.Trees.{Ledger, custom_of}
use Rattle.system_files.specs.SystemFiles.{Custom}
use Rattle.command_parts.specs.declared.refusal.Refusal.{Refusal}
use Rattle.command_parts.specs.Accepting.{stored}
use Rattle.command_parts.specs.Checks.{Pure, IsSingle}
use Rattle.command_parts.specs.HeadAnswers.{HeadAnswers}
use Rattle.command_parts.specs.MorphismFaults.{fault_of_rules}
use Rattle.session_cli.specs.TextOutcomes.{RulesAnswers, after_rules_head, macro_checks, morphism_checks}
use Rattle.command_parts.proofs.TextCheckNames.{text_success}
use Rattle.command_parts.proofs.CheckSteps.{then_single, single_so}
use Rattle.command_parts.proofs.OneHeads.{head_single}
use Rattle.command_parts.proofs.OneTexts.{stored_single}
use Rattle.command_parts.proofs.RefusingSteps.{refusing_one}
use Rattle.command_parts.specs.RefusingChecks.{Refusing}

-- a `macro` stores what is in its quotes
pub macro_single : (ledger : Ledger) (text : List ℕ) → IsSingle (macro_checks ledger text)
macro_single ledger text =
    then_single (Pure (HeadAnswers (DerivesNamed (codes "macro")) text)) (λ (head : NamedHead). stored (custom_of ledger) (text_success Macros head.name head.body)) (head_single (DerivesNamed (codes "macro")) (one_head (DerivesNamed (codes "macro")) (one_named (codes "macro"))) text)
    (λ head spells. stored_single (custom_of ledger) (text_success Macros head.name head.body))

-- the rules of a quoted text
rules_is : (body : List ℕ) (r : Result Rules Refusal) → RulesAnswers body r → (Refusing fault_of_rules (Parses body)).answers r
rules_is body (Ok rules) a = a
rules_is body (Err refusal) a = a

rules_single : (body : List ℕ) → IsSingle (Pure (RulesAnswers body))
rules_single body = single_so (Pure (RulesAnswers body)) (Refusing fault_of_rules (Parses body)) (rules_is body) (refusing_one fault_of_rules (Parses body) rules_faults.Memory refl (one_answer body))

-- a `morphism` stores its rules as they are printed
pub morphism_single : (ledger : Ledger) (text : List ℕ) → IsSingle (morphism_checks ledger text)
morphism_single ledger text =
    let custom : Custom = custom_of ledger in
    then_single (Pure (HeadAnswers (DerivesNamed (codes "morphism")) text)) (λ head. after_rules_head custom head) (head_single (DerivesNamed (codes "morphism")) (one_head (DerivesNamed (codes "morphism")) (one_named (codes "morphism"))) text) (λ head spells.
    then_single (Pure (RulesAnswers head.body)) (λ (rules : Rules). stored custom (text_success Morphisms head.name (printed rules))) (rules_single head.body) (λ rules parses.
    stored_single custom (text_success Morphisms head.name (printed rules))))
