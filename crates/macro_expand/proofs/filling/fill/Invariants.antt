use Rattle.std.proofs.Common.{◌≡◌, ◌≤◌, ◌++◌, length, map}
use Rattle.macro_expand.specs.Filling.{segments, filled}
use Rattle.macro_expand.proofs.filling.fill.Given as goal

-- what was made, and what is left with arguments in its places, is the whole
abbrev pub invariant-loop-rest : goal.invariant-loop-rest
invariant-loop-rest l = record {
  whole_is : l.made.items ++ filled (map (λ argument. argument.items) l.arguments) (segments l.rest) ≡ filled (map (λ argument. argument.items) l.arguments) (segments l.text);
  short : length l.made.items ≤ 65536;
}

abbrev pub decreases-loop-rest : goal.decreases-loop-rest
decreases-loop-rest l = length l.rest
