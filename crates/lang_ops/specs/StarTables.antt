-- The nondeterministic automaton of a star.
use Rattle.std.specs.Prelude.{◌≡◌, ◌++◌, true, List, Some}
use Rattle.digit_tuple.specs.Automaton as branching
use Rattle.digit_tuple.specs.Automaton.{Branch, Branching, IsBranchTable}
use Rattle.digit_tuple.specs.Deterministic.{Automaton, states_of, transitions_of}
use Rattle.lang_ops.specs.LinkedRows.{AreLinked, AreLinkedRows}

-- the automaton's states, linked to its initial one, and after them others
pub record IsStarTable (a : Automaton) (more : List Branch) (n : Branching) : Type 0 where
  pub sizes : n.sizes ≡ a.sizes
  pub prefix : List Branch
  pub rows : AreLinkedRows a (Some 0) true prefix (states_of a)
  pub states : n.states ≡ prefix ++ more
  pub table : IsBranchTable (branching.letters_of n) n.states

-- the state accepts, and leads where the automaton's initial one does
pub record IsStarStart (a : Automaton) (row : Branch) : Type 0 where
  pub accepting : row.accepting ≡ true
  pub transitions : AreLinked a (Some 0) (transitions_of a 0) row.transitions
