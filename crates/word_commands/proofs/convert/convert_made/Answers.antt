use Rattle.std.proofs.Common.{List, ℕ, refl, subst}
use Rattle.std.proofs.lemmas.Result.{err_from_is_err_and}
use Rattle.command_head.specs.HeadViews.{convert_view}
use Rattle.formula_resolve.specs.FirstMentions.{first_files}
use Rattle.definitions.proofs.CustomTexts.{stored_custom}
use Rattle.definitions.specs.Trees.{custom_of}
use Rattle.word_commands.specs.ConvertOutcomes.{after_convert_table}
use Rattle.word_commands.specs.ImageOutcomes.{old_mentions}
use Rattle.command_parts.specs.FileChanges.{Makes}
use Rattle.word_commands.proofs.ConvertChains.{convert_read_made, convert_unloaded}
use Rattle.command_parts.proofs.FilesElsewhere.{mentioned_elsewhere}
use Rattle.command_parts.proofs.LoadedFiles.{unloaded}
use Rattle.command_parts.proofs.StoreReads.{from_none, from_refused}
use Rattle.command_parts.proofs.TextReads.{then_texts}
use Rattle.word_commands.proofs.convert.convert_made.Goals as goal

pub returns-in_err-system : goal.returns-in_err-system
returns-in_err-system g c =
    let p = err_from_is_err_and c.from_residual.result c.from_residual.ensures.1 in
    rw (p.1, p.2) (from_none _ _ _ refl (λ found ledger stores. tt))

pub returns-in_err-old : goal.returns-in_err-old
returns-in_err-old g c =
    let p = err_from_is_err_and c.from_residual-in_err-old.result c.from_residual-in_err-old.ensures.1 in
    let fault = c.in_err-old.field-0.0 in
    let head = convert_view c.args.head.now in
    rw (p.1, p.2) (from_refused _ _ _ _ fault c.in_err-old.ensures
    (λ found refused ledger stores. convert_unloaded c.args.options.limit ledger head fault (unloaded ledger found (first_files (old_mentions head.old)) fault stores refused)))

pub made_of-requires : goal.made_of-requires
made_of-requires g c = (c.in_ok-old.ensures.found, c.in_ok-old.ensures.gives.there)

pub returns : goal.returns
returns g c =
    let old = c.in_ok-old.old in
    let head = convert_view c.args.head.now in
    let options = c.args.options in
    then_texts _ _ _ _ _ _ old c.made_of.result c.in_ok-old.ensures c.made_of.ensures
    (λ found custom is. record { name_is = is.name_is; there = mentioned_elsewhere found custom (old_mentions old.name) old.mentioned is.there })
    (λ found is makes ledger stores. convert_read_made options.limit options.shown ledger head old found c.made_of.result stores is
    (subst (λ (s : List ℕ). Makes (custom_of ledger) (after_convert_table options.limit ledger (record { word = head.word; system = s; old = old.name }) old.mentioned.tables.items) options.shown c.made_of.result) c.in_ok-system.ensures
    (makes ledger found head.word stores (stored_custom ledger found stores) is.there.listed)))
