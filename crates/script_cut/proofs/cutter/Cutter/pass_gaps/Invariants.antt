use Rattle.std.proofs.Common.{◌≡◌}
use Rattle.script_cut.proofs.PassingSteps.{IsInGaps}
use Rattle.script_cut.specs.Reading.{IsStillInGaps}
use Rattle.script_cut.proofs.cutter.Cutter.pass_gaps.Given as goal

abbrev pub invariant-pieces : goal.invariant-pieces
invariant-pieces g l = record {
  gaps : IsInGaps l.initial.self (g.S.Source.view l.initial.from) l.self (g.S.Source.view l.from) l.commented;
  still : IsStillInGaps (l.from ≡ l.initial.from) l.initial.self l.self l.commented;
  text : l.self.text ≡ l.initial.self.text;
  faults : (g.S.Source.view l.from).faults ≡ (g.S.Source.view l.initial.from).faults;
}

abbrev pub decreases-pieces : goal.decreases-pieces
decreases-pieces g l = l.self.room
