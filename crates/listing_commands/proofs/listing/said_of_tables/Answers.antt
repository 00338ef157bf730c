use Rattle.std.proofs.Common.{Ok, sym, subst}
use Rattle.std.proofs.lemmas.Result.{err_from_is_err_and}
use Rattle.system_admission.specs.SystemSteps.{AdmitsNames, no_steps}
use Rattle.system_files.specs.SystemFiles.{Custom}
use Rattle.command_parts.specs.Checks.{Fails}
use Rattle.listing_commands.specs.ListingOutcomes.{listing_systems}
use Rattle.command_parts.specs.SystemChecks.{systems_known}
use Rattle.command_parts.proofs.SameMentions.{same_names}
use Rattle.listing_commands.proofs.ListingReading.{own_over}
use Rattle.listing_commands.proofs.ListingChains.{listing_unknown, listing_known}
use Rattle.command_parts.proofs.TextReads.{texts_refused, texts_read}
use Rattle.listing_commands.proofs.listing.said_of_tables.Goals as goal

pub returns-in_err-named : goal.returns-in_err-named
returns-in_err-named g c =
    let p = err_from_is_err_and c.from_residual.result c.from_residual.ensures.1 in
    let fault = c.in_err-named.field-0.0 in
    let limit = c.args.options.limit in
    let read = c.args.read.now in
    let tables = read.mentioned.tables.items in
    let first = same_names limit tables c.requires.1.mentions_are c.in_err-named.ensures in
    rw (p.1, p.2) (texts_refused _ _ _ _ fault first
    (λ custom refused ledger files stores same listed. listing_unknown limit ledger read.asked.name read.asked.question tables fault
    (subst (λ (k : Custom). Fails (systems_known limit k (listing_systems tables read.asked.name)) fault) (sym same) refused)))

pub said_over-requires-clause-named : goal.said_over-requires-clause-named
said_over-requires-clause-named g c =
    let limit = c.args.options.limit in
    let tables = c.args.read.now.mentioned.tables.items in
    let first = same_names limit tables c.requires.1.mentions_are c.in_ok-named.ensures in
    (first.in_some_folder.0, (first.gives first.in_some_folder.0 first.in_some_folder.1).names)

pub returns : goal.returns
returns g c =
    let limit = c.args.options.limit in
    let shown = c.args.options.shown in
    let read = c.args.read.now in
    let tables = read.mentioned.tables.items in
    let named = c.in_ok-named.named in
    let first = same_names limit tables c.requires.1.mentions_are c.in_ok-named.ensures in
    let own = own_over named.steps shown read first.in_some_folder.0 c.said_over.result c.requires (c.said_over.ensures first.in_some_folder.0 (first.gives first.in_some_folder.0 first.in_some_folder.1).names) in
    texts_read _ _ _ _ named c.said_over.result own first
    (λ k given ledger files stores same listed.
    listing_known limit ledger read.asked.name read.asked.question tables named.steps shown c.said_over.result
    (subst (λ (j : Custom). AdmitsNames j (listing_systems tables read.asked.name) (no_steps limit) (Ok tt) named.steps) (sym same) given.admits)
    (c.said_over.ensures k given.names ledger files stores same listed))
