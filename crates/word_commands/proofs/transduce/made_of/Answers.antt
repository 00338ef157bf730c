use Rattle.std.proofs.Common.{Ok, sym, subst}
use Rattle.std.proofs.lemmas.Result.{err_from_is_err_and}
use Rattle.system_admission.specs.SystemSteps.{AdmitsNames, no_steps}
use Rattle.system_files.specs.SystemFiles.{Custom}
use Rattle.command_parts.specs.Checks.{Fails}
use Rattle.word_commands.specs.OldWordMakes.{systems_of_old}
use Rattle.command_parts.specs.SystemChecks.{systems_known}
use Rattle.word_commands.specs.TransduceMakes.{head_of}
use Rattle.command_parts.proofs.SameMentions.{same_names}
use Rattle.command_parts.proofs.TextReads.{texts_refused, texts_read}
use Rattle.word_commands.proofs.TransduceChains.{systems_passed, systems_refused, transduce_own}
use Rattle.word_commands.proofs.transduce.made_of.Goals as goal

pub returns-in_err-named : goal.returns-in_err-named
returns-in_err-named g c =
    let p = err_from_is_err_and c.from_residual.result c.from_residual.ensures.1 in
    let fault = c.in_err-named.field-0.0 in
    let limit = c.args.options.limit in
    let read = c.args.read.now in
    let first = same_names limit read.old.mentioned.tables.items c.requires.1.mentions_are c.in_err-named.ensures in
    rw (p.1, p.2) (texts_refused _ _ _ _ fault first
    (λ custom refused ledger files word mapping stores same listed. systems_refused limit ledger (head_of word mapping read) read.transducer read.old.mentioned.tables.items fault
    (subst (λ (k : Custom). Fails (systems_known limit k (systems_of_old read.old)) fault) (sym same) refused)))

pub made_over-requires-clause-named : goal.made_over-requires-clause-named
made_over-requires-clause-named g c =
    let limit = c.args.options.limit in
    let first = same_names limit c.args.read.now.old.mentioned.tables.items c.requires.1.mentions_are c.in_ok-named.ensures in
    (first.in_some_folder.0, (first.gives first.in_some_folder.0 first.in_some_folder.1).names)

pub returns : goal.returns
returns g c =
    let limit = c.args.options.limit in
    let shown = c.args.options.shown in
    let read = c.args.read.now in
    let named = c.in_ok-named.named in
    let first = same_names limit read.old.mentioned.tables.items c.requires.1.mentions_are c.in_ok-named.ensures in
    let own = transduce_own named.steps shown read first.in_some_folder.0 c.made_over.result c.requires (c.made_over.ensures first.in_some_folder.0 (first.gives first.in_some_folder.0 first.in_some_folder.1).names) in
    texts_read _ _ _ _ named c.made_over.result own first
    (λ k given ledger files word mapping stores same listed.
    systems_passed limit ledger (head_of word mapping read) read.transducer read.old.mentioned.tables.items named.steps shown c.made_over.result
    (subst (λ (j : Custom). AdmitsNames j (systems_of_old read.old) (no_steps limit) (Ok tt) named.steps) (sym same) given.admits)
    (c.made_over.ensures k given.names ledger files word mapping stores same listed))
