-- The transitions to the places so far.
use Rattle.std.proofs.Common.{◌↔◌, take}
use Rattle.std.specs.Prelude.{Contains}
use Rattle.digit_tuple.specs.declared.transitions.Transition.{Transition}
use Rattle.regex_build.specs.Rows.{IsTransitionTo}
use Rattle.regex_build.proofs.rows.transitions_to.Given as goal

abbrev pub invariant-loop-place : goal.invariant-loop-place
invariant-loop-place l = (x : Transition) → Contains l.transitions.items x ↔ IsTransitionTo l.ranges (take l.place-index l.next) x
