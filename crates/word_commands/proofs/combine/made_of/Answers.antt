use Rattle.std.proofs.Common.{Ok, sym, subst}
use Rattle.std.proofs.lemmas.Result.{err_from_is_err_and}
use Rattle.system_admission.specs.SystemSteps.{AdmitsNames, no_steps}
use Rattle.system_files.specs.SystemFiles.{Custom}
use Rattle.command_parts.specs.Checks.{Fails}
use Rattle.word_commands.specs.CombineMakes.{automata_of, head_of}
use Rattle.word_commands.specs.CombineOutcomes.{listed_systems}
use Rattle.command_parts.specs.SystemChecks.{systems_known}
use Rattle.command_parts.proofs.SameMentions.{same_names}
use Rattle.word_commands.proofs.CombineChains.{list_own, list_unknown, list_known}
use Rattle.command_parts.proofs.TextReads.{texts_refused, texts_read}
use Rattle.word_commands.proofs.combine.made_of.Goals as goal

pub returns-in_err-named : goal.returns-in_err-named
returns-in_err-named g c =
    let p = err_from_is_err_and c.from_residual.result c.from_residual.ensures.1 in
    let fault = c.in_err-named.field-0.0 in
    let limit = c.args.options.limit in
    let read = c.args.read.now in
    let tables = read.mentioned.tables.items in
    let first = same_names limit tables c.requires.loaded.1.mentions_are c.in_err-named.ensures in
    rw (p.1, p.2) (texts_refused _ _ _ _ fault first
    (λ custom refused ledger files word stores same listed. list_unknown limit ledger (head_of word read) tables fault
    (subst (λ (k : Custom). Fails (systems_known limit k (listed_systems tables (automata_of read))) fault) (sym same) refused)))

pub combined-requires-clause-named : goal.combined-requires-clause-named
combined-requires-clause-named g c =
    let limit = c.args.options.limit in
    let tables = c.args.read.now.mentioned.tables.items in
    let first = same_names limit tables c.requires.loaded.1.mentions_are c.in_ok-named.ensures in
    (first.in_some_folder.0, (first.gives first.in_some_folder.0 first.in_some_folder.1).names)

pub returns : goal.returns
returns g c =
    let limit = c.args.options.limit in
    let shown = c.args.options.shown in
    let read = c.args.read.now in
    let tables = read.mentioned.tables.items in
    let named = c.in_ok-named.named in
    let first = same_names limit tables c.requires.loaded.1.mentions_are c.in_ok-named.ensures in
    let own = list_own named.steps shown read first.in_some_folder.0 c.combined.result c.requires (c.combined.ensures first.in_some_folder.0 (first.gives first.in_some_folder.0 first.in_some_folder.1).names) in
    texts_read _ _ _ _ named c.combined.result own first
    (λ k given ledger files word stores same listed.
    list_known limit ledger (head_of word read) tables named.steps shown c.combined.result
    (subst (λ (j : Custom). AdmitsNames j (listed_systems tables (automata_of read)) (no_steps limit) (Ok tt) named.steps) (sym same) given.admits)
    (c.combined.ensures k given.names ledger files word stores same listed))
