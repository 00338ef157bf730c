use Rattle.std.proofs.Common.{◌≡◌, ◌++◌, take}
use Rattle.word_walk.specs.ListedKeys.{key_transitions}
use Rattle.word_walk.proofs.listed_words.push_transitions.Given as goal

abbrev pub invariant-loop-transition : goal.invariant-loop-transition
invariant-loop-transition l = l.out ≡ l.fn.out ++ key_transitions l.skip l.mark (take l.transition-index l.row)
