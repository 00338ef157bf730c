-- An answer is what the expansion by the macros of the files says.
use Rattle.std.proofs.Common.{◌≡◌, refl, sym, ap, ◌∙◌, true≢false, ℕ, List, Option, None, Some, Result, Ok, Err}
use Rattle.wal_outside.specs.Files.{Files}
use Rattle.wal_outside.specs.declared.folder.Folder.TheVariants.{Macros}
use Rattle.macro_expand.specs.Expansion.{expansion}
use Rattle.macro_expand.specs.declared.fault.MacroFault.{MacroFault}
use Rattle.macro_expand.specs.declared.fault.MacroFault.TheVariants as macros
use Rattle.dfa_loading.specs.declared.fault.FileFlaw.TheVariants.{TooLong}
use Rattle.dfa_loading.specs.declared.fault.LoadFault.{LoadFault}
use Rattle.dfa_loading.specs.declared.fault.LoadFault.TheVariants as loads
use Rattle.macro_loading.specs.MacroFiles.{macros_of, Expands, IsAnswer, ExpansionsByFilesHaveOneAnswer}
use Rattle.macro_loading.specs.declared.fault.ExpansionFault.{ExpansionFault}
use Rattle.macro_loading.specs.declared.fault.ExpansionFault.TheVariants as faults

-- why a macro is unknown, by what is under its name
abbrev unknown_by : List ℕ → Option (List ℕ) → LoadFault
unknown_by name None = loads.Unknown Macros name
unknown_by name (Some text) = loads.File Macros name TooLong

abbrev answer_by : Files → Result (List ℕ) MacroFault → Result (List ℕ) ExpansionFault
answer_by files (Ok made) = Ok made
answer_by files (Err (macros.Unknown name)) = Err (faults.Load (unknown_by name (files Macros name)))
answer_by files (Err macros.Memory) = Err (faults.Load loads.Memory)
answer_by files (Err (macros.Syntax at)) = Err (faults.Syntax at)
answer_by files (Err (macros.MacroArgs name n given)) = Err (faults.MacroArgs name n given)
answer_by files (Err (macros.MacroDepth name)) = Err (faults.MacroDepth name)
answer_by files (Err macros.MacroLong) = Err faults.MacroLong

answer_is : (files : Files) (text : List ℕ) (result : Result (List ℕ) ExpansionFault) → Expands (λ made. made) files text result → IsAnswer result → answer_by files (expansion (macros_of files) text) ≡ result
answer_is files text (Ok made) h is = ap (answer_by files) h
answer_is files text (Err (faults.Syntax at)) h is = ap (answer_by files) h
answer_is files text (Err (faults.MacroArgs name n given)) h is = ap (answer_by files) h
answer_is files text (Err (faults.MacroDepth name)) h is = ap (answer_by files) h
answer_is files text (Err faults.MacroLong) h is = ap (answer_by files) h
answer_is files text (Err (faults.Load (loads.Unknown folder name))) h is =
    ap (answer_by files) h.1 ∙ (ap (λ there. Err (faults.Load (unknown_by name there))) h.2 ∙ ap (λ f. Err (faults.Load (loads.Unknown f name))) (sym h.0))
answer_is files text (Err (faults.Load (loads.File folder name flaw))) h is =
    ap (answer_by files) h.2 ∙ (ap (λ there. Err (faults.Load (unknown_by name there))) h.3.1
    ∙ (ap (λ f. Err (faults.Load (loads.File f name TooLong))) (sym h.0) ∙ ap (λ w. Err (faults.Load (loads.File folder name w))) (sym h.1)))
answer_is files text (Err (faults.Load (loads.Store folder name))) h is = absurd (true≢false is.1)
answer_is files text (Err (faults.Load loads.Memory)) h is = absurd (is.0 refl)

pub one_answer : ExpansionsByFilesHaveOneAnswer
one_answer files text result other first second is are = sym (answer_is files text result first is) ∙ answer_is files text other second are
