use Rattle.std.proofs.Common.{◌≡◌, ◌+◌, ◌++◌, length, map}
use Rattle.std.specs.Option.{option_copied, option_map_or}
use Rattle.macro_expand.specs.Arguments.{cut, arguments_left}
use Rattle.macro_expand.proofs.arguments.arguments_of.Given as goal

-- the arguments so far, and those of what is left, are those of the whole
abbrev pub invariant-arguments : goal.invariant-arguments
invariant-arguments l = map (λ argument. argument.now) l.arguments.items ++ arguments_left (option_copied l.left) ≡ cut 0 0 l.inside

abbrev pub decreases-arguments : goal.decreases-arguments
decreases-arguments l = option_map_or (λ bytes. length bytes.now + 1) l.left 0
