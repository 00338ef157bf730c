use Rattle.std.proofs.Common.{arith, refl}
use Rattle.digit_tuple.specs.Automaton.{IsBefore}
use Rattle.digit_tuple.proofs.OrderLemmas.{AllPairs-from_adjacent}
use Rattle.digit_tuple.proofs.TableLemmas.{IsBefore-trans}
use Rattle.digit_tuple.proofs.nfa.are_ascending.Goals as goal

pub returns : goal.returns
returns c =
    (λ h. AllPairs-from_adjacent IsBefore IsBefore-trans c.args.transitions.now (λ k d below. c.loop-place.invariant k d (omega arith)), λ h. refl)
