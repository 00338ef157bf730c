-- From the head of a question about listed words to all checks of its command.
use Rattle.std.proofs.Common.{ℕ, Bool, List, Result, Ok, Err, refl, codes}
use Rattle.command_head.specs.Breaks.{HasHead}
use Rattle.command_head.specs.Grammar.{DerivesName}
use Rattle.command_head.specs.Heads.{TestHead}
use Rattle.command_head.specs.HeadViews.{test_view}
use Rattle.command_head.specs.TestBreaks.{HasTest}
use Rattle.command_head.specs.declared.fault.HeadFault.{HeadFault}
use Rattle.command_head.specs.declared.fault.HeadFault.TheVariants as heads
use Rattle.definitions.specs.Trees.{Ledger}
use Rattle.table_listings.specs.declared.question.Question.TheVariants.{Infinity}
use Rattle.command_parts.specs.declared.fault.Fault.{Fault}
use Rattle.command_parts.specs.Checks.{Fails, Pure}
use Rattle.command_parts.specs.HeadAnswers.{HeadAnswers, fault_of_head}
use Rattle.listing_commands.specs.ListingOutcomes.{TestAnswers, after_listing_head, inf_checks, test_checks, words_asked}
use Rattle.command_parts.specs.FileChanges.{PrintsChecked}
use Rattle.command_parts.specs.RefusingChecks.{Refusing}
use Rattle.command_parts.proofs.CheckSteps.{fails_first}
use Rattle.command_parts.proofs.HeadSteps.{head_unread}
use Rattle.listing_commands.proofs.ListingChains.{prints_after}

-- a head that is not read
pub test_broken : (limit : ℕ) (ledger : Ledger) (text : List ℕ) (fault : HeadFault) → HasTest test_view text (Err fault) → Fails (test_checks limit ledger text) (fault_of_head fault)
test_broken limit ledger text (heads.Syntax at) breaks =
    fails_first (Refusing fault_of_head (TestAnswers text)) (λ head. after_listing_head limit ledger head.name (words_asked head)) (fault_of_head (heads.Syntax at)) (heads.Syntax at, refl, breaks)
test_broken limit ledger text (heads.Number at) breaks =
    fails_first (Refusing fault_of_head (TestAnswers text)) (λ head. after_listing_head limit ledger head.name (words_asked head)) (fault_of_head (heads.Number at)) (heads.Number at, refl, breaks)
test_broken limit ledger text heads.Memory breaks = tt

pub inf_broken : (limit : ℕ) (ledger : Ledger) (text : List ℕ) (fault : HeadFault) → HasHead (DerivesName (codes "inf")) (λ (name : List ℕ). name) text (Err fault) → Fails (inf_checks limit ledger text) (fault_of_head fault)
inf_broken limit ledger text fault breaks =
    fails_first (Pure (HeadAnswers (DerivesName (codes "inf")) text)) (λ name. after_listing_head limit ledger name Infinity) (fault_of_head fault) (head_unread (DerivesName (codes "inf")) (λ (name : List ℕ). name) text fault breaks)

-- one that is
pub test_said : (limit : ℕ) (ledger : Ledger) (text : List ℕ) (head : TestHead) (shown : Bool) (r : Result (List ℕ) Fault) → TestAnswers text (Ok head) → PrintsChecked (after_listing_head limit ledger head.name (words_asked head)) shown r → PrintsChecked (test_checks limit ledger text) shown r
test_said limit ledger text head shown r spells prints_checked = prints_after (Refusing fault_of_head (TestAnswers text)) (λ h. after_listing_head limit ledger h.name (words_asked h)) head shown r spells prints_checked

pub inf_said : (limit : ℕ) (ledger : Ledger) (text name : List ℕ) (shown : Bool) (r : Result (List ℕ) Fault) → HeadAnswers (DerivesName (codes "inf")) text (Ok name) → PrintsChecked (after_listing_head limit ledger name Infinity) shown r → PrintsChecked (inf_checks limit ledger text) shown r
inf_said limit ledger text name shown r spells prints_checked = prints_after (Pure (HeadAnswers (DerivesName (codes "inf")) text)) (λ n. after_listing_head limit ledger n Infinity) name shown r spells prints_checked
