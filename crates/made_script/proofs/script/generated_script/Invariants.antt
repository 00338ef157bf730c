use Rattle.std.proofs.Common.{◌≡◌, ◌++◌, ◌*◌}
use Rattle.made_script.specs.Draws.{state_after}
use Rattle.made_script.specs.Scripts.{commands, first_commands}
use Rattle.made_script.proofs.script.generated_script.Given as goal

abbrev pub invariant-loop-count : goal.invariant-loop-count
invariant-loop-count l = (l.text.items ≡ first_commands ++ commands l.seed l.count) × (l.draws.state ≡ state_after l.seed (3 * l.count))
