use Rattle.std.proofs.Common.{◌≡◌, ℕ, ◌≤◌, false, length, get_or}
use Rattle.residual_classes.proofs.pending_classes.widen.Given as goal

abbrev pub invariant-loop : goal.invariant-loop
invariant-loop l = record {
  same : (class : ℕ) → get_or l.flags.items class false ≡ get_or l.fn.flags.items class false;
  room : l.counter ≤ length l.flags.items;
}
