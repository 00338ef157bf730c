use Rattle.std.proofs.Common.{◌≡◌, ◌+◌, ◌*◌, ◌-◌}
use Rattle.wal_outside.specs.Memory.{sure_left}
use Rattle.script_cut.specs.Cutting.{place_of}
use Rattle.script_runs.specs.Taking.{OnlySpends}
use Rattle.script_runs.proofs.TextSteps.{HasReachedIn}
use Rattle.script_runs.proofs.running.+loads.Given as goal

-- the items of the text so far were answered and their lines handed over
abbrev pub invariant-answer_text-items : goal.invariant-answer_text-items
invariant-answer_text-items g l = record {
  reached : HasReachedIn (g.A.Answering.language l.initial.progress.answering) l.depth (sure_left l.initial.source) (g.T.Store.view l.initial.store) l.initial.progress.script.room (g.T.Store.view l.store) l.progress.script.room
      (place_of l.cutter (sure_left l.source)) (g.K.Sink.view l.initial.out) (g.K.Sink.view l.out) l.initial.progress.tally l.progress.tally;
  answering : l.progress.answering ≡ l.initial.progress.answering;
  spent : OnlySpends l.initial.progress.script l.progress.script;
}

abbrev pub decreases-answer_text-items : goal.decreases-answer_text-items
decreases-answer_text-items g l = l.cutter.room

abbrev pub decreases-answer_text : goal.decreases-answer_text
decreases-answer_text g l = 2 * (8 - l.depth) + 1

abbrev pub decreases-answer_item : goal.decreases-answer_item
decreases-answer_item g l = 2 * (8 - l.depth)
