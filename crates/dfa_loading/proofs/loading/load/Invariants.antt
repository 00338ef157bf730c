use Rattle.std.proofs.Common.{take, Ok}
use Rattle.dfa_loading.specs.Loading.{IsLoaded}
use Rattle.dfa_loading.proofs.loading.load.Given as goal

-- the earlier files are loaded
abbrev pub invariant-loop-file : goal.invariant-loop-file
invariant-loop-file g l = IsLoaded (take l.file-index l.files) (g.T.Store.view l.initial.store) (Ok l.tables) (g.T.Store.view l.store)
