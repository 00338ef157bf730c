-- A `convert` has one outcome.
use Rattle.std.proofs.Common.{◌≡◌, ℕ, ◌≤◌, List, None, Result, Ok, Err, refl, sym, ap, ◌∙◌, subst}
use Rattle.command_head.specs.Grammar.{DerivesConvert}
use Rattle.command_head.proofs.OneFault.{one_head}
use Rattle.command_head.proofs.WordHeads.{one_convert}
use Rattle.digit_tuple.specs.declared.step_fault.StepFault.TheVariants.{Memory}
use Rattle.automaton_steps.specs.OneAnswers.{HasOneAnswer}
use Rattle.base_change.proofs.RootLemmas.{related_in_one_way, root-least}
use Rattle.base_change.proofs.OneConversions.{conversions_one}
use Rattle.base_change.specs.Conversions.{ConversionsHaveOneOutcome, DoesConversion}
use Rattle.base_change.specs.Roots.{IsLeastRoot}
use Rattle.dfa_loading.specs.Headers.{headers_of}
use Rattle.formula_resolve.specs.FirstMentions.{first_files, first_systems}
use Rattle.num_system.specs.Sealed.{SystemValue}
use Rattle.num_system.proofs.OneSystem.{one_sealed}
use Rattle.system_names.specs.Names.{IsBase}
use Rattle.word_output.specs.Words.{WordValue}
use Rattle.system_files.specs.SystemFiles.{Custom}
use Rattle.definitions.specs.Trees.{Converted, Ledger, custom_of}
use Rattle.word_commands.specs.declared.base_system.BaseSystem.{BaseSystem}
use Rattle.word_commands.specs.declared.convert.Change.{Change}
use Rattle.command_parts.specs.declared.system_refusal.SystemRefusal.TheVariants as system_refusals
use Rattle.command_parts.specs.declared.refusal.Refusal.TheVariants as refusals
use Rattle.command_parts.specs.declared.fault.Fault.TheVariants as faults
use Rattle.word_commands.specs.BaseWords.{BaseAnswers, fault_of_base, named_base, over_base}
use Rattle.command_parts.specs.Checks.{Pure, IsSingle}
use Rattle.word_commands.specs.ConvertOutcomes.{ChangeAnswers, IsChange, UnknownBaseAnswers, after_change, after_convert_head, after_convert_systems, after_convert_table, after_new_name, after_old_base, convert_checks, fault_of_change, no_unknown_base, related_base}
use Rattle.word_commands.specs.ConvertSteps.{DoesConvert}
use Rattle.command_parts.specs.FileChecks.{files_loaded}
use Rattle.command_parts.specs.HeadAnswers.{HeadAnswers}
use Rattle.word_commands.specs.ImageOutcomes.{old_mentions}
use Rattle.command_parts.specs.SystemChecks.{systems_known}
use Rattle.word_commands.proofs.BaseNames.{base_one, one_base}
use Rattle.command_parts.proofs.CheckSteps.{then_single}
use Rattle.command_parts.proofs.OneHeads.{head_single}
use Rattle.command_parts.proofs.OneLoadings.{files_single}
use Rattle.word_commands.proofs.OneOldWords.{made_single}
use Rattle.command_parts.proofs.OneSystems.{systems_single}
use Rattle.letter_reversal.proofs.ReversedLetters.{reversal_outcome}
use Rattle.word_output.proofs.LetterEquality.{letter_functions}
use Rattle.command_parts.proofs.RefusingSteps.{refusing_single}

-- the new system is named like a base that there is not, or is not
unknown_one : (system : List ℕ) (r s : Result (Unit {0}) (List ℕ)) → UnknownBaseAnswers system r → UnknownBaseAnswers system s → r ≡ s
unknown_one system (Ok other) (Ok also) a b = refl
unknown_one system (Ok other) (Err name) a b = absurd (a b.1)
unknown_one system (Err name) (Ok other) a b = absurd (b a.1)
unknown_one system (Err name) (Err also) a b = ap (λ (x : List ℕ). let r : Result (Unit {0}) (List ℕ) = Err x in r) (a.0 ∙ sym b.0)

-- a change is one, and there is one or none
module _ (over : BaseSystem) (is_base : IsBase over.base) (system : List ℕ) where
  one_change : (c d : Change) → IsChange over system c → IsChange over system d → c ≡ d
  one_change c d a b =
      let systems = one_base system c.system d.system a.name_is b.name_is in
      let commons = related_in_one_way over.base d.system.base c.common d.common is_base.least b.name_is.0.least (subst (λ (s : BaseSystem). IsLeastRoot over.base s.base c.common) systems a.root) b.root in
      λ i. record { system = systems i; common = commons i }

  change_one : (r s : Result Change (List ℕ × List ℕ)) → ChangeAnswers over system r → ChangeAnswers over system s → r ≡ s
  change_one (Ok c) (Ok d) a b = ap (λ (x : Change). let r : Result Change (List ℕ × List ℕ) = Ok x in r) (one_change c d a b)
  change_one (Ok c) (Err names) a b = absurd (b.1 c.system a.name_is c.common.root c.common.old_power c.common.new_power a.root.old_is a.root.new_is)
  change_one (Err names) (Ok c) a b = absurd (a.1 c.system b.name_is c.common.root c.common.old_power c.common.new_power b.root.old_is b.root.new_is)
  change_one (Err names) (Err other) a b = ap (λ (x : List ℕ × List ℕ). let r : Result Change (List ℕ × List ℕ) = Err x in r) (a.0 ∙ sym b.0)

-- the conversion of a word to another base has one outcome
one_conversion_outcome : ConversionsHaveOneOutcome
one_conversion_outcome = conversions_one (reversal_outcome letter_functions)

-- the steps of a conversion have one answer
convert_one : ConversionsHaveOneOutcome → (change : Change) → 2 ≤ change.common.root → (word : WordValue) → HasOneAnswer Memory (DoesConvert change word)
convert_one law change low word old new next result other (s, one, does) (t, also, did) =
    let same : s ≡ t = one_sealed s t one.sealed also.sealed (one.direction_is ∙ sym also.direction_is) (one.base_is ∙ sym also.base_is) in
    law word t change.common low old new next result other (subst (λ (system : SystemValue). DoesConversion word system change.common old result new) same does) did

pub convert_single : (limit : ℕ) (ledger : Ledger) (text : List ℕ) → IsSingle (convert_checks limit ledger text)
convert_single limit ledger text =
    let custom : Custom = custom_of ledger in
    then_single (Pure (HeadAnswers DerivesConvert text)) (λ head. after_convert_head limit ledger head) (head_single DerivesConvert (one_head DerivesConvert one_convert) text) (λ head spells.
    then_single (files_loaded ledger (first_files (old_mentions head.old))) (λ ts. after_convert_table limit ledger head ts) (files_single ledger (first_files (old_mentions head.old))) (λ ts there.
    then_single (no_unknown_base head.system) (λ other. after_new_name limit ledger head ts) (refusing_single (λ name. faults.Refused (refusals.System (system_refusals.SystemUnknown name))) (UnknownBaseAnswers head.system) (unknown_one head.system)) (λ other named.
    then_single (systems_known limit custom (first_systems (headers_of ts) (old_mentions head.old))) (λ admitted. after_convert_systems ledger head ts admitted) (systems_single limit custom (first_systems (headers_of ts) (old_mentions head.old))) (λ admitted known.
    then_single (over_base None (headers_of ts) head.old) (λ over. after_old_base ledger head ts admitted over) (refusing_single fault_of_base (BaseAnswers None (headers_of ts) head.old) (base_one None (headers_of ts) head.old)) (λ over is.
    then_single (related_base over head.system) (λ change. after_change ledger head ts admitted change) (refusing_single fault_of_change (ChangeAnswers over head.system) (change_one over is.base_is head.system)) (λ change related.
    made_single ledger head.word head.old (DoesConvert change) (λ tree. Converted change.system.direction (named_base change.system) tree) ts admitted
    (convert_one one_conversion_outcome change (root-least change.common.root change.common.old_power over.base is.base_is.least related.root.old_is)) there.0 (first_files (old_mentions head.old)) there.2))))))
