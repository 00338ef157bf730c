use Rattle.std.proofs.Common.{◌≡◌}
use Rattle.constants.specs.WordPaths.{IsPathTo}
use Rattle.constants.proofs.word_automaton.path_of.Given as goal

abbrev pub invariant-loop-place : goal.invariant-loop-place
invariant-loop-place l = (l.builder.sizes ≡ l.fn.alphabet) × IsPathTo l.letters l.place l.builder
