-- What is proved of the checks of a `promote`.
use Rattle.std.proofs.Common.{◌≡◌, ℕ, List, Ok, Err, refl, sym, subst, inl, inr}
use Rattle.adder_check.specs.declared.admit_fault.Law.{Law}
use Rattle.definitions.specs.Trees.{Ledger}
use Rattle.command_parts.specs.declared.fault.Fault.TheVariants as faults
use Rattle.command_parts.specs.Accepting.{Success}
use Rattle.word_commands.specs.PromoteOutcomes.{promote_checks}
use Rattle.command_parts.specs.MorphismFaults.{fault_of_promotion}
use Rattle.fixed_points.specs.declared.promote_fault.PromoteFault.{PromoteFault}
use Rattle.fixed_points.specs.declared.promote_fault.PromoteFault.TheVariants as promotes
use Rattle.command_parts.proofs.SoundChecks.{AreSound, MayBeStored, RefusesSystem, by_law, no_step, no_load, no_head, words_no_base}
use Rattle.word_commands.proofs.OnePromotes.{promote_single}

no_promotion : (name : List ℕ) (law : Law) → (fault : PromoteFault) → fault_of_promotion fault ≡ faults.Refused (by_law name law) → ⊥
no_promotion name law (promotes.Morphism kind) is = cc
no_promotion name law (promotes.Step fault) is = no_step name law fault is

-- what it stores is among words
promote_may_be_stored : (limit : ℕ) (ledger : Ledger) (text : List ℕ) (success : Success) → (promote_checks limit ledger text).answers (Ok success) → MayBeStored success
promote_may_be_stored limit ledger text success (head, h, (rules, r, (lines, l, (is, fits)))) = subst MayBeStored (sym is) (words_no_base, refl)

-- a refusal by a law is one of its systems
by_promote : (limit : ℕ) (ledger : Ledger) (name : List ℕ) (law : Law) → (command : List ℕ) → (promote_checks limit ledger command).answers (Err (by_law name law)) → RefusesSystem limit ledger name law
by_promote limit ledger name law command (inl (own, is, refused)) = absurd (no_head name law own is)
by_promote limit ledger name law command (inr (head, h, inl (own, is, refused))) = absurd (no_load name law own is)
by_promote limit ledger name law command (inr (head, h, inr (rules, r, inl (own, is, refused)))) = absurd (no_promotion name law own is)
by_promote limit ledger name law command (inr (head, h, inr (rules, r, inr (lines, l, (is, long))))) = absurd cc

-- what is proved of its checks
pub promote_sound : (limit : ℕ) (ledger : Ledger) (text : List ℕ) → AreSound Success MayBeStored limit ledger (promote_checks limit ledger text)
promote_sound limit ledger text = record {
  single = promote_single limit ledger text;
  may_be_stored = λ success made. promote_may_be_stored limit ledger text success made;
  refused = λ at law refused. by_promote limit ledger at law text refused;
}
