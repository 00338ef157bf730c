use Rattle.std.proofs.Common.{List, refl, sym, subst}
use Rattle.std.proofs.lemmas.Result.{err_from_is_err_and}
use Rattle.dfa_loading.specs.Loading.{AreListedBy}
use Rattle.dfa_loading.specs.declared.loaded.Loaded.{Loaded}
use Rattle.language_commands.specs.LanguageMakes.{MakesLanguage}
use Rattle.language_commands.specs.LanguageOutcomes.{language_files}
use Rattle.command_parts.proofs.SameMentions.{same_loads}
use Rattle.language_commands.proofs.LanguageChains.{language_loaded, language_own, language_unloaded}
use Rattle.command_parts.proofs.LoadedFiles.{unloaded}
use Rattle.command_parts.proofs.StoreReads.{from_none, from_read, from_refused}
use Rattle.language_commands.proofs.language.language_made.Goals as goal

pub returns-in_err-mentions : goal.returns-in_err-mentions
returns-in_err-mentions g c =
    let p = err_from_is_err_and c.from_residual.result c.from_residual.ensures.1 in
    rw (p.1, p.2) (from_none _ _ _ refl (λ found ledger name stores. tt))

pub returns-in_err-mentioned : goal.returns-in_err-mentioned
returns-in_err-mentioned g c =
    let p = err_from_is_err_and c.from_residual-in_err-mentioned.result c.from_residual-in_err-mentioned.ensures.1 in
    let fault = c.in_err-mentioned.field-0.0 in
    let names = c.args.operands.names.now in
    let loads = same_loads c.in_ok-mentions.ensures c.in_err-mentioned.ensures in
    rw (p.1, p.2) (from_refused _ _ _ _ fault loads
    (λ found refused ledger name stores. language_unloaded c.args.options.limit ledger c.args.operands.op (record { name = name; languages = names }) fault (unloaded ledger found (language_files names) fault stores refused)))

pub made_of_tables-requires-clause-listed : goal.made_of_tables-requires-clause-listed
made_of_tables-requires-clause-listed g c =
    let names = c.args.operands.names.now in
    let loads = same_loads c.in_ok-mentions.ensures c.in_ok-mentioned.ensures in
    (loads.found, subst (λ (ts : List Loaded). AreListedBy loads.found (language_files names) ts) (sym c.deref.ensures.value) loads.gives.listed)

pub returns : goal.returns
returns g c =
    let names = c.args.operands.names.now in
    let op = c.args.operands.op in
    let mentioned = c.in_ok-mentioned.mentioned in
    let tables = mentioned.tables.items in
    let makes : MakesLanguage c.args.options op names tables c.made_of_tables.result = subst (λ (ts : List Loaded). MakesLanguage c.args.options op names ts c.made_of_tables.result) c.deref.ensures.value c.made_of_tables.ensures in
    let loads = same_loads c.in_ok-mentions.ensures c.in_ok-mentioned.ensures in
    from_read _ _ _ _ mentioned c.made_of_tables.result (language_own c.args.options op names tables loads.found c.made_of_tables.result loads.gives.listed makes) loads
    (λ found there ledger name stores. language_loaded c.args.options.limit ledger op (record { name = name; languages = names }) tables c.args.options.shown c.made_of_tables.result (found, stores, there.listed) (makes ledger found name stores there.listed))
