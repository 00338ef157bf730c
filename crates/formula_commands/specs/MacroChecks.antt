-- The text of a formula, with its calls of macros expanded by the texts that are among macros. What is read is a macro of which a call is met.
use Rattle.std.specs.Prelude.{◌≡◌, ℕ, List, Result, Ok, Err}
use Rattle.wal_outside.specs.Files.{Files}
use Rattle.macro_expand.specs.Expansion.{expansion}
use Rattle.macro_loading.specs.MacroFiles as macros
use Rattle.macro_loading.specs.MacroFiles.{ReadsMacroAt, macros_of}
use Rattle.definitions.specs.Trees.{Ledger}
use Rattle.definitions.specs.Texts.{Stores}
use Rattle.command_parts.specs.declared.refusal.Refusal.{Refusal}
use Rattle.command_parts.specs.declared.fault.Fault.TheVariants as faults
use Rattle.command_parts.specs.Checks.{Check}
use Rattle.command_parts.specs.FormulaFaults.{fault_of_expansion}
use Rattle.macro_loading.specs.declared.fault.ExpansionFault.{ExpansionFault}

-- some files that are the texts of the ledger have the property
abbrev pub OfFiles : Ledger → (Files → Type 0) → Type 0
OfFiles ledger Has = (files : Files) × Stores ledger files × Has files

-- the expansion by the macros of the ledger, or the first fault that is met from the left
abbrev pub ExpandedAnswers : Ledger → List ℕ → Result (List ℕ) Refusal → Type 0
ExpandedAnswers ledger body (Ok text) = OfFiles ledger (λ files. expansion (macros_of files) body ≡ Ok text)
ExpandedAnswers ledger body (Err refusal) = (fault : ExpansionFault) × (fault_of_expansion fault ≡ faults.Refused refusal) × OfFiles ledger (λ files. macros.Fails files body fault)

-- the check of the calls: the macros that are met are read
abbrev pub expanded : Ledger → List ℕ → Check (List ℕ)
expanded ledger body = record { answers = ExpandedAnswers ledger body; reads = λ place. OfFiles ledger (λ files. ReadsMacroAt files body place.0 place.1) }
