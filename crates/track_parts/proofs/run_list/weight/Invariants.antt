use Rattle.std.proofs.Common.{◌≡◌, drop}
use Rattle.digit_tuple.specs.Letters.{product}
use Rattle.track_parts.proofs.run_list.weight.Given as goal

abbrev pub invariant-loop-track : goal.invariant-loop-track
invariant-loop-track l = l.weight ≡ product (drop l.track l.alphabet)
