-- The transitions of the letters so far.
use Rattle.std.proofs.Common.{◌≡◌, ◌≤◌, ◌↔◌, ◌⊎◌}
use Rattle.std.specs.Prelude.{Contains}
use Rattle.digit_tuple.specs.declared.transitions.Transition.{Transition}
use Rattle.regex_build.proofs.RowSteps.{IsBetween}
use Rattle.regex_build.proofs.rows.push_transitions.Given as goal

abbrev pub invariant-loop-letter : goal.invariant-loop-letter
invariant-loop-letter l = record {
  within : (l.letter ≡ l.fn.range.first) ⊎ (l.letter ≤ l.fn.range.end);
  transitions : (x : Transition) → Contains l.transitions.items x ↔ (Contains l.initial.transitions.items x ⊎ IsBetween l.place l.fn.range.first l.letter x);
}
