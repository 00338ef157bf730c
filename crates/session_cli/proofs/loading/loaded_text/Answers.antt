use Rattle.std.proofs.Common.{refl}
use Rattle.session_cli.specs.RunOutcomes.{IsLoadedText}
use Rattle.command_parts.proofs.HeadSteps.{own_head}
use Rattle.command_parts.proofs.StoreReads.{from_none, from_part}
use Rattle.session_cli.proofs.LoadedTexts.{load_reads, load_deep, load_unread}
use Rattle.session_cli.proofs.loading.loaded_text.Goals as goal

pub returns-then-depth-lt-LOAD_LIMIT-clause-loaded : goal.returns-then-depth-lt-LOAD_LIMIT-clause-loaded
returns-then-depth-lt-LOAD_LIMIT-clause-loaded g c =
    from_part (IsLoadedText c.in-Ok.name) _ _ _ c.file_text.result c.file_text.ensures
    (λ found is ledger stores. load_reads c.args.depth c.args.text.now c.in-Ok.name c.in-Ok.ensures c.if-depth-lt-LOAD_LIMIT.true found c.file_text.result is ledger stores)

pub returns-else-depth-lt-LOAD_LIMIT-clause-loaded : goal.returns-else-depth-lt-LOAD_LIMIT-clause-loaded
returns-else-depth-lt-LOAD_LIMIT-clause-loaded g c =
    rw c.from.ensures (from_none _ _ _ refl (λ found ledger stores. load_deep c.args.depth c.args.text.now c.in-Ok.name c.in-Ok.ensures c.if-depth-lt-LOAD_LIMIT.false ledger))

pub returns-in-Err-clause-loaded : goal.returns-in-Err-clause-loaded
returns-in-Err-clause-loaded g c =
    rw c.from-in-Err.ensures (from_none _ _ _ (own_head c.in-Err.fault) (λ found ledger stores. load_unread c.args.depth c.args.text.now c.in-Err.fault c.in-Err.ensures ledger))
