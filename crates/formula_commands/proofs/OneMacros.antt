-- A text with calls of macros has one expansion, or one fault.
use Rattle.std.proofs.Common.{◌≡◌, ℕ, List, Result, Ok, Err, refl, subst}
use Rattle.wal_outside.specs.Files.{Files}
use Rattle.dfa_loading.specs.declared.fault.LoadFault.TheVariants as loads
use Rattle.macro_loading.specs.MacroFiles.{Expands, IsAnswer}
use Rattle.macro_loading.specs.declared.fault.ExpansionFault.{ExpansionFault}
use Rattle.macro_loading.specs.declared.fault.ExpansionFault.TheVariants as expansions
use Rattle.macro_loading.proofs.OneAnswers.{one_answer}
use Rattle.definitions.specs.Trees.{Ledger}
use Rattle.definitions.specs.Texts.{Stores}
use Rattle.command_parts.specs.declared.refusal.Refusal.{Refusal}
use Rattle.command_parts.specs.declared.fault.Fault.TheVariants as faults
use Rattle.command_parts.specs.FormulaFaults.{fault_of_expansion}
use Rattle.formula_commands.specs.MacroChecks.{ExpandedAnswers, expanded}
use Rattle.command_parts.specs.Checks.{IsSingle}
use Rattle.command_parts.proofs.CheckSteps.{single_so}
use Rattle.command_parts.proofs.OneLoadings.{same_there}
use Rattle.command_parts.proofs.RefusingSteps.{refusing_single}
use Rattle.command_parts.specs.RefusingChecks.{Refusing}

-- an answer of the expansion by files that are the ledger's texts
record IsExpansion (ledger : Ledger) (body : List ℕ) (result : Result (List ℕ) ExpansionFault) : Type 0 where
  files : Files
  stores : Stores ledger files
  expands : Expands (λ made. made) files body result
  own : IsAnswer result

-- what refuses a command is neither of memory nor of the store
inside : (fault : ExpansionFault) (refusal : Refusal) → fault_of_expansion fault ≡ faults.Refused refusal → (let r : Result (List ℕ) ExpansionFault = Err fault in IsAnswer r)
inside (expansions.Syntax at) refusal is = ((λ memory. cc), refl)
inside (expansions.MacroArgs of n given) refusal is = ((λ memory. cc), refl)
inside (expansions.MacroDepth of) refusal is = ((λ memory. cc), refl)
inside expansions.MacroLong refusal is = ((λ memory. cc), refl)
inside (expansions.Load (loads.Unknown folder name)) refusal is = ((λ memory. cc), refl)
inside (expansions.Load (loads.File folder name flaw)) refusal is = ((λ memory. cc), refl)
inside (expansions.Load (loads.Store folder name)) refusal is = absurd (cc)
inside (expansions.Load loads.Memory) refusal is = absurd (cc)

expansion_of : (ledger : Ledger) (body : List ℕ) (r : Result (List ℕ) Refusal) → ExpandedAnswers ledger body r → (Refusing fault_of_expansion (IsExpansion ledger body)).answers r
expansion_of ledger body (Ok text) (files, stores, is) = record { files = files; stores = stores; expands = is; own = ((λ memory. cc), refl) }
expansion_of ledger body (Err refusal) (fault, is, (files, stores, fails)) = (fault, is, record { files = files; stores = stores; expands = fails; own = inside fault refusal is })

-- files that are the texts of one ledger are one
one_files : (ledger : Ledger) (files others : Files) → Stores ledger files → Stores ledger others → files ≡ others
one_files ledger files others stores also = λ i folder name. same_there ledger files others stores also folder name i

expansion_one : (ledger : Ledger) (body : List ℕ) (r s : Result (List ℕ) ExpansionFault) → IsExpansion ledger body r → IsExpansion ledger body s → r ≡ s
expansion_one ledger body r s one two =
    let alike : one.files ≡ two.files = one_files ledger one.files two.files one.stores two.stores in
    one_answer two.files body r s (subst (λ (files : Files). Expands (λ made. made) files body r) alike one.expands) two.expands one.own two.own

pub expanded_single : (ledger : Ledger) (body : List ℕ) → IsSingle (expanded ledger body)
expanded_single ledger body = single_so (expanded ledger body) (Refusing fault_of_expansion (IsExpansion ledger body)) (expansion_of ledger body) (refusing_single fault_of_expansion (IsExpansion ledger body) (expansion_one ledger body))
