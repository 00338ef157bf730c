use Rattle.std.proofs.Common.{◌≡◌, ℕ, ◌<◌}
use Rattle.digit_tuple.specs.Deterministic.{accepting_of}
use Rattle.residual_classes.specs.Classes.{next_of}
use Rattle.pad_rename.proofs.padding_lsd.keeps_acceptance.Given as goal

abbrev pub invariant-loop-state : goal.invariant-loop-state
invariant-loop-state l = (q : ℕ) → q < l.state → accepting_of l.a (next_of l.a q 0) ≡ accepting_of l.a q
