use Rattle.std.proofs.Common.{◌≡◌}
use Rattle.script_runs.proofs.Between.{IsBetween}
use Rattle.script_runs.proofs.running.answer_script.Given as goal

-- the items so far were answered and their lines handed over
abbrev pub invariant-items : goal.invariant-items
invariant-items g l = record {
  between : IsBetween (g.A.Answering.language l.initial.progress.answering) (g.S.Source.view l.initial.script) (g.S.Source.view l.script) l.progress.script (g.T.Store.view l.initial.store) (g.T.Store.view l.store) (g.K.Sink.view l.initial.out) (g.K.Sink.view l.out) l.progress.tally;
  answering : l.progress.answering ≡ l.initial.progress.answering;
}

abbrev pub decreases-items : goal.decreases-items
decreases-items g l = l.progress.script.room
