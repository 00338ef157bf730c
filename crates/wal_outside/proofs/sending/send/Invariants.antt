use Rattle.std.proofs.Common.{length, take, ◌-◌, ◌≡◌, ◌≤◌}
use Rattle.wal_outside.specs.Sending.{HasSent}
use Rattle.wal_outside.proofs.sending.send.Given as goal

-- what comes before `at` was sent, and nothing was called while there was none
abbrev pub invariant-pieces : goal.invariant-pieces
invariant-pieces g l = record {
  sent : HasSent (g.K.Sink.view l.initial.out) (take l.at l.piece) (g.K.Sink.view l.out);
  within : l.at ≤ length l.piece;
  fresh : length l.piece ≡ 0 → l.out ≡ l.initial.out;
}

abbrev pub decreases-pieces : goal.decreases-pieces
decreases-pieces g l = length l.piece - l.at
