use Rattle.std.proofs.Common.{refl}
use Rattle.std.proofs.lemmas.Result.{err_from_is_err_and}
use Rattle.definitions.proofs.CustomTexts.{stored_custom}
use Rattle.listing_commands.specs.ListingOutcomes.{listing_files, listing_mentions}
use Rattle.command_parts.proofs.SameMentions.{same_loads}
use Rattle.command_parts.proofs.FilesElsewhere.{mentioned_elsewhere}
use Rattle.listing_commands.proofs.ListingChains.{listing_loaded, listing_unloaded}
use Rattle.command_parts.proofs.LoadedFiles.{unloaded}
use Rattle.command_parts.proofs.StoreReads.{from_none, from_refused}
use Rattle.command_parts.proofs.TextReads.{then_texts}
use Rattle.listing_commands.proofs.listing.said.Goals as goal

pub returns-in_err-mentions : goal.returns-in_err-mentions
returns-in_err-mentions g c =
    let p = err_from_is_err_and c.from_residual.result c.from_residual.ensures.1 in
    rw (p.1, p.2) (from_none _ _ _ refl (λ found ledger stores. tt))

pub returns-in_err-mentioned : goal.returns-in_err-mentioned
returns-in_err-mentioned g c =
    let p = err_from_is_err_and c.from_residual-in_err-mentioned.result c.from_residual-in_err-mentioned.ensures.1 in
    let fault = c.in_err-mentioned.field-0.0 in
    let name = c.args.asked.name in
    let loads = same_loads c.in_ok-mentions.ensures c.in_err-mentioned.ensures in
    rw (p.1, p.2) (from_refused _ _ _ _ fault loads (λ found refused ledger stores. listing_unloaded c.args.options.limit ledger name c.args.asked.question fault (unloaded ledger found (listing_files name) fault stores refused)))

pub said_of_tables-requires : goal.said_of_tables-requires
said_of_tables-requires g c =
    let loads = same_loads c.in_ok-mentions.ensures c.in_ok-mentioned.ensures in
    (loads.found, loads.gives)

pub returns : goal.returns
returns g c =
    let name = c.args.asked.name in
    let mentioned = c.in_ok-mentioned.mentioned in
    let loads = same_loads c.in_ok-mentions.ensures c.in_ok-mentioned.ensures in
    then_texts _ _ _ _ _ _ mentioned c.said_of_tables.result loads c.said_of_tables.ensures (λ found custom there. mentioned_elsewhere found custom (listing_mentions name) mentioned there)
    (λ found there prints_checked ledger stores. listing_loaded c.args.options.limit ledger name c.args.asked.question mentioned.tables.items c.args.options.shown c.said_of_tables.result (found, stores, there.listed)
    (prints_checked ledger found stores (stored_custom ledger found stores) there.listed))
