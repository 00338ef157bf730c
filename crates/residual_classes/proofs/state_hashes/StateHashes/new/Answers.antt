use Rattle.std.proofs.Common.{arith}
use Rattle.residual_classes.proofs.HashLemmas.{AreCoarseNumbers-outputs}
use Rattle.residual_classes.proofs.state_hashes.StateHashes.new.Goals as goal

pub returns : goal.returns
returns c = AreCoarseNumbers-outputs c.args.machine.now.dfa.now c.args.machine.now.outputs.now c.requires c.in_ok-output_hashes.field-0.items (omega (arith, c.in_ok-output_hashes.ensures.width, c.states-states.ensures.value))
    (λ q less. c.in_ok-output_hashes.ensures.are q (omega (arith, less, c.states-states.ensures.value)))
