use Rattle.std.proofs.Common.{◌≡◌, ◌++◌, take}
use Rattle.std.specs.List.{flat_map}
use Rattle.dfa_text.specs.LinePrefixes.{prefixed_text}
use Rattle.dfa_text.proofs.word_text.push_prefixed.Given as goal

abbrev pub invariant-loop-transition : goal.invariant-loop-transition
invariant-loop-transition l = l.out.items ≡ l.initial.out.items ++ flat_map (prefixed_text l.prefixes) (take l.transition-index l.transitions)
