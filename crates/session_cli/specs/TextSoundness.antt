-- What is proved of the checks of a `macro` and a `morphism`.
use Rattle.std.proofs.Common.{◌≡◌, ℕ, List, Ok, Err, sym, subst, inl, inr}
use Rattle.adder_check.specs.declared.admit_fault.Law.{Law}
use Rattle.definitions.specs.Trees.{Ledger}
use Rattle.command_parts.specs.declared.fault.Fault.TheVariants as faults
use Rattle.command_parts.specs.Accepting.{Success}
use Rattle.session_cli.specs.TextOutcomes.{macro_checks, morphism_checks}
use Rattle.command_parts.specs.MorphismFaults.{fault_of_rules}
use Rattle.morph_words.specs.declared.fault.RulesFault.{RulesFault}
use Rattle.morph_words.specs.declared.fault.RulesFault.TheVariants as rules_faults
use Rattle.command_parts.proofs.SoundChecks.{AreSound, MayBeStored, RefusesSystem, by_law, no_head, macros_no_base, morphisms_no_base}
use Rattle.session_cli.specs.OneTextCommands.{macro_single, morphism_single}

no_rules : (name : List ℕ) (law : Law) → (fault : RulesFault) → fault_of_rules fault ≡ faults.Refused (by_law name law) → ⊥
no_rules name law (rules_faults.Syntax at) is = cc
no_rules name law (rules_faults.Number at) is = cc
no_rules name law rules_faults.Memory is = cc

-- what they store is in their folders
macro_may_be_stored : (ledger : Ledger) (text : List ℕ) (success : Success) → (macro_checks ledger text).answers (Ok success) → MayBeStored success
macro_may_be_stored ledger text success (head, h, (is, fits)) = subst MayBeStored (sym is) (macros_no_base, tt)

morphism_may_be_stored : (ledger : Ledger) (text : List ℕ) (success : Success) → (morphism_checks ledger text).answers (Ok success) → MayBeStored success
morphism_may_be_stored ledger text success (head, h, (rules, r, (is, fits))) = subst MayBeStored (sym is) (morphisms_no_base, tt)

-- no system is refused
by_macro : (limit : ℕ) (ledger : Ledger) (name : List ℕ) (law : Law) → (command : List ℕ) → (macro_checks ledger command).answers (Err (by_law name law)) → RefusesSystem limit ledger name law
by_macro limit ledger name law command (inl (own, is, refused)) = absurd (no_head name law own is)
by_macro limit ledger name law command (inr (head, h, (is, long))) = absurd cc

by_morphism : (limit : ℕ) (ledger : Ledger) (name : List ℕ) (law : Law) → (command : List ℕ) → (morphism_checks ledger command).answers (Err (by_law name law)) → RefusesSystem limit ledger name law
by_morphism limit ledger name law command (inl (own, is, refused)) = absurd (no_head name law own is)
by_morphism limit ledger name law command (inr (head, h, inl (own, is, refused))) = absurd (no_rules name law own is)
by_morphism limit ledger name law command (inr (head, h, inr (rules, r, (is, long)))) = absurd cc

-- what is proved of its checks
pub macro_sound : (limit : ℕ) (ledger : Ledger) (text : List ℕ) → AreSound Success MayBeStored limit ledger (macro_checks ledger text)
macro_sound limit ledger text = record {
  single = macro_single ledger text;
  may_be_stored = λ success made. macro_may_be_stored ledger text success made;
  refused = λ at law refused. by_macro limit ledger at law text refused;
}

-- what is proved of its checks
pub morphism_sound : (limit : ℕ) (ledger : Ledger) (text : List ℕ) → AreSound Success MayBeStored limit ledger (morphism_checks ledger text)
morphism_sound limit ledger text = record {
  single = morphism_single ledger text;
  may_be_stored = λ success made. morphism_may_be_stored ledger text success made;
  refused = λ at law refused. by_morphism limit ledger at law text refused;
}
