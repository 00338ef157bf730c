use Rattle.std.proofs.Common.{Ok, sym, subst}
use Rattle.std.proofs.lemmas.Result.{err_from_is_err_and}
use Rattle.formula_resolve.specs.Mentions.{mentions}
use Rattle.system_admission.specs.SystemSteps.{AdmitsNames, no_steps}
use Rattle.system_files.specs.SystemFiles.{Custom}
use Rattle.dfa_loading.specs.Headers.{headers_of}
use Rattle.formula_resolve.specs.FirstMentions.{first_systems}
use Rattle.command_parts.specs.Checks.{Fails}
use Rattle.formula_commands.specs.FormulaMakes.{tree_of}
use Rattle.command_parts.specs.SystemChecks.{systems_known}
use Rattle.command_parts.proofs.SameMentions.{same_names}
use Rattle.formula_commands.proofs.FormulaChains.{tables_refused, tables_known}
use Rattle.formula_commands.proofs.FormulaMaking.{made_own}
use Rattle.command_parts.proofs.TextReads.{texts_refused, texts_read}
use Rattle.formula_commands.proofs.formula.made_of.Goals as goal

pub returns-in_err-named : goal.returns-in_err-named
returns-in_err-named g c =
    let p = err_from_is_err_and c.from_residual.result c.from_residual.ensures.1 in
    let fault = c.in_err-named.field-0.0 in
    let limit = c.args.options.limit in
    let f = tree_of c.args.read.now in
    let tables = c.args.read.now.mentioned.tables.items in
    let first = same_names limit tables c.requires.loaded.1.mentions_are c.in_err-named.ensures in
    rw (p.1, p.2) (texts_refused _ _ _ _ fault first
    (λ custom refused ledger files place stores same listed. tables_refused limit ledger place f tables fault
    (subst (λ (k : Custom). Fails (systems_known limit k (first_systems (headers_of tables) (mentions f))) fault) (sym same) refused)))

pub built-requires-clause-named : goal.built-requires-clause-named
built-requires-clause-named g c =
    let limit = c.args.options.limit in
    let tables = c.args.read.now.mentioned.tables.items in
    let first = same_names limit tables c.requires.loaded.1.mentions_are c.in_ok-named.ensures in
    (first.in_some_folder.0, (first.gives first.in_some_folder.0 first.in_some_folder.1).names)

pub returns : goal.returns
returns g c =
    let limit = c.args.options.limit in
    let shown = c.args.options.shown in
    let read = c.args.read.now in
    let f = tree_of read in
    let tables = read.mentioned.tables.items in
    let named = c.in_ok-named.named in
    let first = same_names limit tables c.requires.loaded.1.mentions_are c.in_ok-named.ensures in
    let own = made_own named.steps shown read first.in_some_folder.0 c.built.result c.requires (c.built.ensures first.in_some_folder.0 (first.gives first.in_some_folder.0 first.in_some_folder.1).names) in
    texts_read _ _ _ _ named c.built.result own first
    (λ k given ledger files place stores same listed.
    tables_known limit ledger place f tables named.steps shown c.built.result
    (subst (λ (j : Custom). AdmitsNames j (first_systems (headers_of tables) (mentions f)) (no_steps limit) (Ok tt) named.steps) (sym same) given.admits)
    (c.built.ensures k given.names ledger files place stores same listed))
