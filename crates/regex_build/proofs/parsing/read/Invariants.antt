-- The tokens before the byte were read.
use Rattle.std.proofs.Common.{◌-◌, length}
use Rattle.regex_build.specs.Reading.{state_view}
use Rattle.regex_build.proofs.ParseSteps.{AtByte}
use Rattle.regex_build.proofs.parsing.read.Given as goal

abbrev pub invariant-loop-spot : goal.invariant-loop-spot
invariant-loop-spot l = AtByte l.sets l.text l.at (state_view l.reading)

abbrev pub decreases-loop-spot : goal.decreases-loop-spot
decreases-loop-spot l = length l.text - l.at
