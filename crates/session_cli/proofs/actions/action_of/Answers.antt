use Rattle.std.proofs.Common.{None, Result, refl}
use Rattle.wal_outside.specs.Files.{Files}
use Rattle.wal_outside.specs.declared.folder.Folder.TheVariants.{Automata, Results}
use Rattle.definitions.specs.Texts.{Stores}
use Rattle.definitions.specs.Trees.{Ledger, custom_of}
use Rattle.definitions.proofs.CustomTexts.{stored_custom}
use Rattle.command_parts.specs.declared.fault.Fault.{Fault}
use Rattle.command_parts.specs.declared.file_change.FileChange.{FileChange}
use Rattle.session_cli.specs.declared.actions.CommandWord.TheVariants as words
use Rattle.word_commands.specs.CombineOutcomes.{combine_checks}
use Rattle.word_commands.specs.ConvertOutcomes.{convert_checks}
use Rattle.formula_commands.specs.FormulaOutcomes.{formula_checks}
use Rattle.word_commands.specs.ImageOutcomes.{image_checks}
use Rattle.language_commands.specs.LanguageOutcomes.{language_checks}
use Rattle.listing_commands.specs.ListingOutcomes.{inf_checks, test_checks}
use Rattle.session_cli.specs.Outcomes.{word_text}
use Rattle.command_parts.specs.FileChanges.{ChangesFile, printing, writing}
use Rattle.word_commands.specs.PromoteOutcomes.{promote_checks}
use Rattle.language_commands.specs.RegOutcomes.{reg_checks}
use Rattle.session_cli.specs.TextOutcomes.{macro_checks, morphism_checks}
use Rattle.word_commands.specs.TransduceOutcomes.{transduce_checks}
use Rattle.session_cli.proofs.ActionSteps.{from_change, from_said, stores_change, prints_action}
use Rattle.command_parts.proofs.StoreReads.{from_none, own_change}
use Rattle.command_parts.proofs.TextReads.{files_of_texts}
use Rattle.session_cli.proofs.TextSteps.{macro_reads_none, morphism_reads_none}
use Rattle.session_cli.proofs.WordSteps.{acted_by_word, change_of_formula, too_long, no_word}
use Rattle.session_cli.proofs.actions.action_of.Goals as goal

pub returns-in-Some-Reg : goal.returns-in-Some-Reg
returns-in-Some-Reg g c =
    rw c.writing.ensures
    (from_change _ _ _ _ c.reg_change.result (files_of_texts _ (λ (found : Files) (r : Result FileChange Fault). (ledger : Ledger) → Stores ledger found → ChangesFile (custom_of ledger) (reg_checks c.args.options.limit ledger c.args.text.now) c.args.options.shown r) _ _ c.reg_change.result c.reg_change.ensures (λ found changes ledger stores. changes ledger (stored_custom ledger found stores)))
    (λ found changes ledger stores. acted_by_word words.Reg c.args.options.limit ledger c.args.text.now c.args.options.shown (writing c.reg_change.result) c.if-text-gt-COMMAND_LIMIT.false (rw c.in-Some-Reg.field-0-is at c.in-Some-Reg.ensures)
    (stores_change (custom_of ledger) (reg_checks c.args.options.limit ledger c.args.text.now) c.args.options.shown c.reg_change.result (changes ledger stores))))

pub returns-in-Some-Eval : goal.returns-in-Some-Eval
returns-in-Some-Eval g c =
    rw c.writing-in-Some-Eval.ensures
    (from_change _ _ _ _ c.formula_change.result c.formula_change.ensures
    (λ found changes ledger stores. acted_by_word words.Eval c.args.options.limit ledger c.args.text.now c.args.options.shown (writing c.formula_change.result) c.if-text-gt-COMMAND_LIMIT.false (rw c.in-Some-Eval.field-0-is at c.in-Some-Eval.ensures)
    (stores_change (custom_of ledger) (formula_checks (word_text words.Eval) Results c.args.options.limit ledger c.args.text.now) c.args.options.shown c.formula_change.result (change_of_formula c.eval.result.word.now (word_text words.Eval) c.eval.result.folder Results c.eval.result.options c.args.options ledger c.args.text.now c.formula_change.result c.eval.ensures.word c.eval.ensures.folder c.eval.ensures.options (changes ledger stores)))))

pub returns-in-Some-Def : goal.returns-in-Some-Def
returns-in-Some-Def g c =
    rw c.writing-in-Some-Def.ensures
    (from_change _ _ _ _ c.formula_change-in-Some-Def.result c.formula_change-in-Some-Def.ensures
    (λ found changes ledger stores. acted_by_word words.Def c.args.options.limit ledger c.args.text.now c.args.options.shown (writing c.formula_change-in-Some-Def.result) c.if-text-gt-COMMAND_LIMIT.false (rw c.in-Some-Def.field-0-is at c.in-Some-Def.ensures)
    (stores_change (custom_of ledger) (formula_checks (word_text words.Def) Automata c.args.options.limit ledger c.args.text.now) c.args.options.shown c.formula_change-in-Some-Def.result (change_of_formula c.def.result.word.now (word_text words.Def) c.def.result.folder Automata c.def.result.options c.args.options ledger c.args.text.now c.formula_change-in-Some-Def.result c.def.ensures.word c.def.ensures.folder c.def.ensures.options (changes ledger stores)))))

-- no entry
nothing : Ledger
nothing = λ folder name. None

pub returns-in-Some-Macro : goal.returns-in-Some-Macro
returns-in-Some-Macro g c =
    rw c.writing-in-Some-Macro.ensures
    (from_change _ _ _ _ c.macro_change.result
    (from_none (λ (found : Files) (r : Result FileChange Fault). (ledger : Ledger) → ChangesFile (custom_of ledger) (macro_checks ledger c.args.text.now) c.args.options.shown r) _ c.macro_change.result
    (own_change (custom_of nothing) (macro_checks nothing c.args.text.now) (macro_reads_none nothing c.args.text.now) c.args.options.shown c.macro_change.result (c.macro_change.ensures nothing c.args.options.shown))
    (λ found ledger. c.macro_change.ensures ledger c.args.options.shown))
    (λ found changes ledger stores. acted_by_word words.Macro c.args.options.limit ledger c.args.text.now c.args.options.shown (writing c.macro_change.result) c.if-text-gt-COMMAND_LIMIT.false (rw c.in-Some-Macro.field-0-is at c.in-Some-Macro.ensures)
    (stores_change (custom_of ledger) (macro_checks ledger c.args.text.now) c.args.options.shown c.macro_change.result (changes ledger))))

pub returns-in-Some-Morphism : goal.returns-in-Some-Morphism
returns-in-Some-Morphism g c =
    rw c.writing-in-Some-Morphism.ensures
    (from_change _ _ _ _ c.morphism_change.result
    (from_none (λ (found : Files) (r : Result FileChange Fault). (ledger : Ledger) → ChangesFile (custom_of ledger) (morphism_checks ledger c.args.text.now) c.args.options.shown r) _ c.morphism_change.result
    (own_change (custom_of nothing) (morphism_checks nothing c.args.text.now) (morphism_reads_none nothing c.args.text.now) c.args.options.shown c.morphism_change.result (c.morphism_change.ensures nothing c.args.options.shown))
    (λ found ledger. c.morphism_change.ensures ledger c.args.options.shown))
    (λ found changes ledger stores. acted_by_word words.Morphism c.args.options.limit ledger c.args.text.now c.args.options.shown (writing c.morphism_change.result) c.if-text-gt-COMMAND_LIMIT.false (rw c.in-Some-Morphism.field-0-is at c.in-Some-Morphism.ensures)
    (stores_change (custom_of ledger) (morphism_checks ledger c.args.text.now) c.args.options.shown c.morphism_change.result (changes ledger))))

pub returns-in-Some-Promote : goal.returns-in-Some-Promote
returns-in-Some-Promote g c =
    rw c.writing-in-Some-Promote.ensures
    (from_change _ _ _ _ c.promote_change.result c.promote_change.ensures
    (λ found changes ledger stores. acted_by_word words.Promote c.args.options.limit ledger c.args.text.now c.args.options.shown (writing c.promote_change.result) c.if-text-gt-COMMAND_LIMIT.false (rw c.in-Some-Promote.field-0-is at c.in-Some-Promote.ensures)
    (stores_change (custom_of ledger) (promote_checks c.args.options.limit ledger c.args.text.now) c.args.options.shown c.promote_change.result (changes ledger stores))))

pub returns-in-Some-Combine : goal.returns-in-Some-Combine
returns-in-Some-Combine g c =
    rw c.writing-in-Some-Combine.ensures
    (from_change _ _ _ _ c.combine_change.result c.combine_change.ensures
    (λ found changes ledger stores. acted_by_word words.Combine c.args.options.limit ledger c.args.text.now c.args.options.shown (writing c.combine_change.result) c.if-text-gt-COMMAND_LIMIT.false (rw c.in-Some-Combine.field-0-is at c.in-Some-Combine.ensures)
    (stores_change (custom_of ledger) (combine_checks c.args.options.limit ledger c.args.text.now) c.args.options.shown c.combine_change.result (changes ledger stores))))

pub returns-in-Some-Image : goal.returns-in-Some-Image
returns-in-Some-Image g c =
    rw c.writing-in-Some-Image.ensures
    (from_change _ _ _ _ c.image_change.result c.image_change.ensures
    (λ found changes ledger stores. acted_by_word words.Image c.args.options.limit ledger c.args.text.now c.args.options.shown (writing c.image_change.result) c.if-text-gt-COMMAND_LIMIT.false (rw c.in-Some-Image.field-0-is at c.in-Some-Image.ensures)
    (stores_change (custom_of ledger) (image_checks c.args.options.limit ledger c.args.text.now) c.args.options.shown c.image_change.result (changes ledger stores))))

pub returns-in-Some-Language : goal.returns-in-Some-Language
returns-in-Some-Language g c =
    let op = c.in-Some-Language.op in
    rw c.writing-in-Some-Language.ensures
    (from_change _ _ _ _ c.language_change.result c.language_change.ensures
    (λ found changes ledger stores. acted_by_word (words.Language op) c.args.options.limit ledger c.args.text.now c.args.options.shown (writing c.language_change.result) c.if-text-gt-COMMAND_LIMIT.false (rw c.in-Some-Language.field-0-is at c.in-Some-Language.ensures)
    (stores_change (custom_of ledger) (language_checks op c.args.options.limit ledger c.args.text.now) c.args.options.shown c.language_change.result (changes ledger stores))))

pub returns-in-Some-Test : goal.returns-in-Some-Test
returns-in-Some-Test g c =
    rw c.printing.ensures
    (from_said _ _ _ _ c.say_test.result c.say_test.ensures
    (λ found prints_checked ledger stores. acted_by_word words.Test c.args.options.limit ledger c.args.text.now c.args.options.shown (printing c.say_test.result) c.if-text-gt-COMMAND_LIMIT.false (rw c.in-Some-Test.field-0-is at c.in-Some-Test.ensures)
    (prints_action (custom_of ledger) (test_checks c.args.options.limit ledger c.args.text.now) c.args.options.shown c.say_test.result (prints_checked ledger stores))))

pub returns-in-Some-Inf : goal.returns-in-Some-Inf
returns-in-Some-Inf g c =
    rw c.printing-in-Some-Inf.ensures
    (from_said _ _ _ _ c.say_inf.result c.say_inf.ensures
    (λ found prints_checked ledger stores. acted_by_word words.Inf c.args.options.limit ledger c.args.text.now c.args.options.shown (printing c.say_inf.result) c.if-text-gt-COMMAND_LIMIT.false (rw c.in-Some-Inf.field-0-is at c.in-Some-Inf.ensures)
    (prints_action (custom_of ledger) (inf_checks c.args.options.limit ledger c.args.text.now) c.args.options.shown c.say_inf.result (prints_checked ledger stores))))

pub returns-in-Some-Transduce : goal.returns-in-Some-Transduce
returns-in-Some-Transduce g c =
    rw c.writing-in-Some-Transduce.ensures
    (from_change _ _ _ _ c.transduce_change.result c.transduce_change.ensures
    (λ found changes ledger stores. acted_by_word words.Transduce c.args.options.limit ledger c.args.text.now c.args.options.shown (writing c.transduce_change.result) c.if-text-gt-COMMAND_LIMIT.false (rw c.in-Some-Transduce.field-0-is at c.in-Some-Transduce.ensures)
    (stores_change (custom_of ledger) (transduce_checks c.args.options.limit ledger c.args.text.now) c.args.options.shown c.transduce_change.result (changes ledger stores))))

pub returns-in-Some-Convert : goal.returns-in-Some-Convert
returns-in-Some-Convert g c =
    rw c.writing-in-Some-Convert.ensures
    (from_change _ _ _ _ c.convert_change.result c.convert_change.ensures
    (λ found changes ledger stores. acted_by_word words.Convert c.args.options.limit ledger c.args.text.now c.args.options.shown (writing c.convert_change.result) c.if-text-gt-COMMAND_LIMIT.false (rw c.in-Some-Convert.field-0-is at c.in-Some-Convert.ensures)
    (stores_change (custom_of ledger) (convert_checks c.args.options.limit ledger c.args.text.now) c.args.options.shown c.convert_change.result (changes ledger stores))))

pub returns-then-text-gt-COMMAND_LIMIT : goal.returns-then-text-gt-COMMAND_LIMIT
returns-then-text-gt-COMMAND_LIMIT g c = from_none _ _ _ refl (λ found ledger stores. too_long c.args.options.limit ledger c.args.text.now c.if-text-gt-COMMAND_LIMIT.true)

pub returns-in-None : goal.returns-in-None
returns-in-None g c = from_none _ _ _ refl (λ found ledger stores. no_word c.args.options.limit ledger c.args.text.now c.if-text-gt-COMMAND_LIMIT.false c.in-None.ensures)
