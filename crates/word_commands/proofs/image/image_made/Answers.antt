use Rattle.std.proofs.lemmas.Result.{err_from_is_err_and}
use Rattle.command_head.specs.HeadViews.{image_view}
use Rattle.word_commands.specs.ImageOutcomes.{old_mentions}
use Rattle.command_parts.proofs.FilesElsewhere.{mentioned_elsewhere}
use Rattle.word_commands.proofs.ImageWrites.{image_read_made}
use Rattle.command_parts.proofs.StoreReads.{from_refused}
use Rattle.command_parts.proofs.TextReads.{then_texts}
use Rattle.word_commands.proofs.image.image_made.Goals as goal

pub returns-in_err-read : goal.returns-in_err-read
returns-in_err-read g c =
    let p = err_from_is_err_and c.from_residual.result c.from_residual.ensures.1 in
    let fault = c.in_err-read.field-0.0 in
    rw (p.1, p.2) (from_refused _ _ _ _ fault c.in_err-read.ensures (λ found refused ledger stores. refused c.args.options.limit ledger stores))

pub made_of-requires : goal.made_of-requires
made_of-requires g c = (c.in_ok-read.ensures.found, c.in_ok-read.ensures.gives.old.there)

pub returns : goal.returns
returns g c =
    let read = c.in_ok-read.read in
    then_texts _ _ _ _ _ _ read c.made_of.result c.in_ok-read.ensures c.made_of.ensures
    (λ found custom is. record {
      rules = record { text = is.rules.text; there = is.rules.there; short = is.rules.short; derives = is.rules.derives };
      old = record { name_is = is.old.name_is; there = mentioned_elsewhere found custom (old_mentions read.old.name) read.old.mentioned is.old.there };
    })
    (λ found is makes ledger stores. image_read_made c.args.options ledger (image_view c.args.head.now) read found c.made_of.result stores is makes)
