use Rattle.std.proofs.Common.{◌≡◌, ◌++◌, map, slice_index_or, take}
use Rattle.digit_tuple.specs.Names.{place_of}
use Rattle.word_output.proofs.pair.joint_sizes.Given as goal

abbrev pub invariant-loop-name : goal.invariant-loop-name
invariant-loop-name l =
    l.sizes.items ≡ map (λ name. slice_index_or (l.first.function.now.automaton.sizes ++ l.second.function.now.automaton.sizes) (place_of (l.first.under.now ++ l.second.under.now) name) 0) (take l.name-index l.names)
