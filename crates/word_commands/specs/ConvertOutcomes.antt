-- What a `convert` does, by its checks in their order: the shape of its head, the file of the old word, that the new system is named like no base
-- that there is not, the old word's systems, that it has one track over a base, that the new system is a base and both bases are powers of one
-- integer, its steps, and the length of the text to store.
use Rattle.std.specs.Prelude.{◌≡◌, ℕ, nat_le, Bool, ◌&&◌, IsTrue, List, length, take, drop, None, Result, Ok, Err}
use Rattle.text_grammar.specs.Numbers.{are_digits}
use Rattle.text_grammar.specs.Systems.{is_direction}
use Rattle.digit_tuple.specs.Steps.{StepLog}
use Rattle.command_head.specs.Grammar.{DerivesConvert}
use Rattle.command_head.specs.Heads.{ConvertHead}
use Rattle.dfa_loading.specs.Headers.{headers_of}
use Rattle.dfa_loading.specs.declared.loaded.Loaded.{Loaded}
use Rattle.formula_resolve.specs.FirstMentions.{first_files, first_systems}
use Rattle.base_change.specs.Roots.{HaveNoRoot, IsLeastRoot}
use Rattle.definitions.specs.Trees.{Converted, Ledger, custom_of}
use Rattle.word_commands.specs.declared.base_system.BaseSystem.{BaseSystem}
use Rattle.word_commands.specs.declared.convert.Change.{Change}
use Rattle.command_parts.specs.declared.system_refusal.SystemRefusal.TheVariants as system_refusals
use Rattle.command_parts.specs.declared.shape_refusal.ShapeRefusal.TheVariants as shape_refusals
use Rattle.command_parts.specs.declared.refusal.Refusal.TheVariants as refusals
use Rattle.command_parts.specs.declared.fault.Fault.{Fault}
use Rattle.command_parts.specs.declared.fault.Fault.TheVariants as faults
use Rattle.command_parts.specs.Accepting.{Success}
use Rattle.word_commands.specs.BaseWords.{IsNameOfBase, name_of_base, named_base, over_base}
use Rattle.command_parts.specs.Checks.{Check, Pure, Then, IsSingle}
use Rattle.word_commands.specs.ConvertSteps.{DoesConvert}
use Rattle.command_parts.specs.FileChecks.{files_loaded}
use Rattle.command_parts.specs.HeadAnswers.{HeadAnswers}
use Rattle.word_commands.specs.ImageOutcomes.{old_mentions}
use Rattle.word_commands.specs.OldWordSteps.{made_of_old}
use Rattle.command_parts.specs.RefusingChecks.{Refusing}
use Rattle.command_parts.specs.SystemChecks.{systems_known}

-- whether the name is `msd_` or `lsd_` and then digits alone, one at least
abbrev pub is_numbered : List ℕ → Bool
is_numbered name = nat_le 4 (length name) && (is_direction (take 4 name) && are_digits (drop 4 name))

-- it is, and there is no base of that name
abbrev pub IsUnknownBase : List ℕ → Type 0
IsUnknownBase name = IsTrue (is_numbered name) × ((s : BaseSystem) → ¬ IsNameOfBase s name)

abbrev pub UnknownBaseAnswers : List ℕ → Result (Unit {0}) (List ℕ) → Type 0
UnknownBaseAnswers system (Ok other) = ¬ IsUnknownBase system
UnknownBaseAnswers system (Err name) = (name ≡ system) × IsUnknownBase system

abbrev pub no_unknown_base : List ℕ → Check (Unit {0})
no_unknown_base system = Refusing (λ name. faults.Refused (refusals.System (system_refusals.SystemUnknown name))) (UnknownBaseAnswers system)

-- the name is that of the new base, and this is the least integer of which both bases are powers, with the exponents
pub record IsChange (over : BaseSystem) (system : List ℕ) (change : Change) : Type 0 where
  pub name_is : IsNameOfBase change.system system
  pub root : IsLeastRoot over.base change.system.base change.common

-- the new base; or both names, where the new one is not that of a base, or that of one with which the old base has no root
abbrev pub ChangeAnswers : BaseSystem → List ℕ → Result Change (List ℕ × List ℕ) → Type 0
ChangeAnswers over system (Ok change) = IsChange over system change
ChangeAnswers over system (Err names) = (names ≡ (name_of_base over, system)) × ((s : BaseSystem) → IsNameOfBase s system → HaveNoRoot over.base s.base)

abbrev pub fault_of_change : List ℕ × List ℕ → Fault
fault_of_change names = faults.Refused (refusals.Shape (shape_refusals.NotRelated names.0 names.1))

abbrev pub related_base : BaseSystem → List ℕ → Check Change
related_base over system = Refusing fault_of_change (ChangeAnswers over system)

-- the checks after the new base: what is stored is the definition that the old name means, over this base
abbrev pub after_change : Ledger → ConvertHead → List Loaded → StepLog → Change → Check Success
after_change ledger head tables admitted change = made_of_old ledger head.word head.old (DoesConvert change) (λ tree. Converted change.system.direction (named_base change.system) tree) tables admitted

-- those after the old base, after the systems, after the name of the new system, after the table, and after the head
abbrev pub after_old_base : Ledger → ConvertHead → List Loaded → StepLog → BaseSystem → Check Success
after_old_base ledger head tables admitted over = Then (related_base over head.system) (λ change. after_change ledger head tables admitted change)

abbrev pub after_convert_systems : Ledger → ConvertHead → List Loaded → StepLog → Check Success
after_convert_systems ledger head tables admitted = Then (over_base None (headers_of tables) head.old) (λ over. after_old_base ledger head tables admitted over)

abbrev pub after_new_name : ℕ → Ledger → ConvertHead → List Loaded → Check Success
after_new_name limit ledger head tables = Then (systems_known limit (custom_of ledger) (first_systems (headers_of tables) (old_mentions head.old))) (λ admitted. after_convert_systems ledger head tables admitted)

abbrev pub after_convert_table : ℕ → Ledger → ConvertHead → List Loaded → Check Success
after_convert_table limit ledger head tables = Then (no_unknown_base head.system) (λ other. after_new_name limit ledger head tables)

abbrev pub after_convert_head : ℕ → Ledger → ConvertHead → Check Success
after_convert_head limit ledger head = Then (files_loaded ledger (first_files (old_mentions head.old))) (λ tables. after_convert_table limit ledger head tables)

-- all checks of a `convert`
abbrev pub convert_checks : ℕ → Ledger → List ℕ → Check Success
convert_checks limit ledger text = Then (Pure (HeadAnswers DerivesConvert text)) (λ head. after_convert_head limit ledger head)

-- a `convert` has at most one proper outcome
abbrev pub ConvertHasOneOutcome : Type 0
ConvertHasOneOutcome = (limit : ℕ) (ledger : Ledger) (text : List ℕ) → IsSingle (convert_checks limit ledger text)
