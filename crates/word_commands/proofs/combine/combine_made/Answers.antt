use Rattle.std.proofs.Common.{refl, ◌∙◌, ap}
use Rattle.std.proofs.lemmas.Result.{err_from_is_err_and}
use Rattle.definitions.proofs.CustomTexts.{stored_custom}
use Rattle.word_commands.specs.CombineMakes.{automata_in}
use Rattle.word_commands.specs.CombineOutcomes.{listed_files, listed_mentions}
use Rattle.command_parts.proofs.SameMentions.{same_loads}
use Rattle.word_commands.proofs.CombineChains.{list_unloaded, list_loaded}
use Rattle.command_parts.proofs.FilesElsewhere.{mentioned_elsewhere}
use Rattle.command_parts.proofs.LoadedFiles.{unloaded}
use Rattle.command_parts.proofs.StoreReads.{from_none, from_refused}
use Rattle.command_parts.proofs.TextReads.{then_texts}
use Rattle.word_commands.proofs.combine.combine_made.Goals as goal

pub returns-in_err-mentions : goal.returns-in_err-mentions
returns-in_err-mentions g c =
    let p = err_from_is_err_and c.from_residual.result c.from_residual.ensures.1 in
    rw (p.1, p.2) (from_none _ _ _ refl (λ found ledger word stores. tt))

pub returns-in_err-mentioned : goal.returns-in_err-mentioned
returns-in_err-mentioned g c =
    let p = err_from_is_err_and c.from_residual-in_err-mentioned.result c.from_residual-in_err-mentioned.ensures.1 in
    let fault = c.in_err-mentioned.field-0.0 in
    let automata = automata_in c.args.automata.items in
    let loads = same_loads (c.in_ok-mentions.ensures ∙ ap (λ xs. listed_mentions (automata_in xs)) c.deref.ensures.value) c.in_err-mentioned.ensures in
    rw (p.1, p.2) (from_refused _ _ _ _ fault loads
    (λ found refused ledger word stores. list_unloaded c.args.options.limit ledger (record { word = word; automata = automata }) fault (unloaded ledger found (listed_files automata) fault stores refused)))

pub made_of-requires : goal.made_of-requires
made_of-requires g c =
    let loads = same_loads (c.in_ok-mentions.ensures ∙ ap (λ xs. listed_mentions (automata_in xs)) c.deref.ensures.value) c.in_ok-mentioned.ensures in
    record { some = c.requires.some; few = c.requires.few; loaded = (loads.found, loads.gives) }

pub returns : goal.returns
returns g c =
    let automata = automata_in c.args.automata.items in
    let mentioned = c.in_ok-mentioned.mentioned in
    let loads = same_loads (c.in_ok-mentions.ensures ∙ ap (λ xs. listed_mentions (automata_in xs)) c.deref.ensures.value) c.in_ok-mentioned.ensures in
    then_texts _ _ _ _ _ _ mentioned c.made_of.result loads c.made_of.ensures (λ found custom there. mentioned_elsewhere found custom (listed_mentions automata) mentioned there)
    (λ found there makes ledger word stores. list_loaded c.args.options.limit ledger (record { word = word; automata = automata }) mentioned.tables.items c.args.options.shown c.made_of.result (found, stores, there.listed)
    (makes ledger found word stores (stored_custom ledger found stores) there.listed))
