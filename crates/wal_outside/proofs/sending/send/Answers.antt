use Rattle.std.proofs.Common.{refl, arith, rules}
use Rattle.wal_outside.proofs.SendingSteps.{none_sent, piece_sent, piece_cut, piece_stuck}
use Rattle.wal_outside.proofs.sending.send.Goals as goal

pub pieces-init : goal.pieces-init
pieces-init g c = record {
  sent = none_sent (g.K.Sink.view c.args.out.now);
  within = omega arith;
  fresh = λ _. refl;
}

pub returns-in-Ok-eq0-clause-sent : goal.returns-in-Ok-eq0-clause-sent
returns-in-Ok-eq0-clause-sent g c =
    piece_stuck _ _ _ c.args.piece.now c.pieces.at c.in-Ok-eq0.field-0 c.pieces.invariant.sent c.in-Ok-eq0.ensures.written c.in-Ok-eq0.field-0-test (omega (arith, c.pieces-test.true))

pub pieces-preserved : goal.pieces-preserved
pieces-preserved g c =
    let written = c.in-Ok.ensures.written in
    record {
      sent = piece_sent _ _ _ c.args.piece.now c.pieces.at c.in-Ok.taken c.pieces.invariant.sent written.bytes (written.faults.some (omega (arith, c.in-Ok.taken-test.1)));
      within = search rules;
      fresh = search rules;
    }

pub returns-in-Err-clause-sent : goal.returns-in-Err-clause-sent
returns-in-Err-clause-sent g c =
    let written = c.in-Err.ensures.written in
    piece_cut _ _ _ c.args.piece.now c.pieces.at c.in-Err.fault c.pieces.invariant.sent written.bytes (omega (arith, c.pieces-test.true)) written.faults
