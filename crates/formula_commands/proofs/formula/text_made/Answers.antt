use Rattle.std.proofs.Common.{Err, ◌∙◌}
use Rattle.std.proofs.lemmas.Result.{err_from_is_err_and}
use Rattle.formula_parse.specs.Views.{formula_view}
use Rattle.formula_resolve.specs.FirstMentions.{first_files}
use Rattle.formula_resolve.specs.Mentions.{mentions}
use Rattle.definitions.proofs.CustomTexts.{stored_custom}
use Rattle.formula_commands.proofs.FilesAlike.{bases_alike, listed_alike, unloaded_alike}
use Rattle.command_parts.proofs.FilesElsewhere.{mentioned_elsewhere}
use Rattle.formula_commands.proofs.FormulaChains.{text_unparsed, text_parsed, formula_unloaded, formula_loaded}
use Rattle.formula_commands.proofs.FormulaRefusals.{unparsed_formula}
use Rattle.command_parts.proofs.LoadedFiles.{unloaded}
use Rattle.command_parts.proofs.StoreReads.{own_parse, from_none, from_refused}
use Rattle.command_parts.proofs.TextReads.{then_texts}
use Rattle.formula_commands.proofs.formula.text_made.Goals as goal

pub returns-in_err-formula : goal.returns-in_err-formula
returns-in_err-formula g c =
    let p = err_from_is_err_and c.from_residual.result c.from_residual.ensures.1 in
    let fault = c.in_err-formula.field-0.0 in
    rw (p.1, p.2) (from_none _ _ _ (own_parse fault) (λ found ledger files place stores same. text_unparsed c.args.options.limit ledger place c.args.text.now _ (unparsed_formula c.args.text.now fault c.in_err-formula.ensures)))

pub returns-in_err-mentioned : goal.returns-in_err-mentioned
returns-in_err-mentioned g c =
    let p = err_from_is_err_and c.from_residual-in_err-mentioned.result c.from_residual-in_err-mentioned.ensures.1 in
    let f = formula_view c.in_ok-formula.formula in
    let fault = c.in_err-mentioned.field-0.0 in
    rw (p.1, p.2) (from_refused _ _ _ _ fault c.in_err-mentioned.ensures
    (λ found refused ledger files place stores same. text_parsed c.args.options.limit ledger place c.args.text.now f c.args.options.shown (Err fault) c.in_ok-formula.ensures
    (formula_unloaded c.args.options.limit ledger place f fault (unloaded ledger files (first_files (mentions f)) fault stores (unloaded_alike files found same (first_files (mentions f)) fault refused)))))

pub made_of-requires : goal.made_of-requires
made_of-requires g c = record { text = c.args.text.now; reads = c.in_ok-formula.ensures; loaded = (c.in_ok-mentioned.ensures.found, c.in_ok-mentioned.ensures.gives) }

pub returns : goal.returns
returns g c =
    let f = formula_view c.in_ok-formula.formula in
    let mentioned = c.in_ok-mentioned.mentioned in
    let tables = mentioned.tables.items in
    then_texts _ _ _ _ _ _ mentioned c.made_of.result c.in_ok-mentioned.ensures c.made_of.ensures (λ found custom there. mentioned_elsewhere found custom (mentions f) mentioned there)
    (λ found there makes ledger files place stores same.
    let here = listed_alike files found same (first_files (mentions f)) tables there.listed in
    text_parsed c.args.options.limit ledger place c.args.text.now f c.args.options.shown c.made_of.result c.in_ok-formula.ensures
    (formula_loaded c.args.options.limit ledger place f tables c.args.options.shown c.made_of.result (files, stores, here) (makes ledger files place stores (stored_custom ledger files stores ∙ bases_alike files found same) here)))
