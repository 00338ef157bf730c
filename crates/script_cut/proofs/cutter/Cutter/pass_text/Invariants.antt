use Rattle.std.proofs.Common.{◌≡◌}
use Rattle.script_cut.proofs.PassingSteps.{IsInText}
use Rattle.script_cut.specs.Reading.{IsStillInText}
use Rattle.script_cut.proofs.cutter.Cutter.pass_text.Given as goal

abbrev pub invariant-pieces : goal.invariant-pieces
invariant-pieces g l = record {
  text : IsInText l.initial.self (g.S.Source.view l.initial.from) l.self (g.S.Source.view l.from) l.len l.quoted;
  still : IsStillInText (l.from ≡ l.initial.from) l.initial.self l.self l.quoted;
  faults : (g.S.Source.view l.from).faults ≡ (g.S.Source.view l.initial.from).faults;
}

abbrev pub decreases-pieces : goal.decreases-pieces
decreases-pieces g l = l.self.room
