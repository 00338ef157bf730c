use Rattle.std.proofs.Common.{◌-◌, length}
use Rattle.formula_parse.specs.StateViews.{state_view}
use Rattle.formula_parse.specs.LexemeViews.{mode_view}
use Rattle.formula_parse.proofs.ParseSteps.{AtPlace}
use Rattle.formula_parse.proofs.parser.parse.Given as goal

abbrev pub invariant-loop-spot : goal.invariant-loop-spot
invariant-loop-spot l = AtPlace l.text (mode_view l.mode) l.at (state_view l.state)

abbrev pub decreases-loop-spot : goal.decreases-loop-spot
decreases-loop-spot l = length l.text - l.at
