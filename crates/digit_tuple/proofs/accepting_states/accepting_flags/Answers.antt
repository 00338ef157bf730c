use Rattle.std.proofs.Common.{◌≡◌, List, Bool, length, map, ap, ◌∙◌, arith}
use Rattle.std.specs.List.{range_with_len}
use Rattle.std.proofs.lemmas.List.FromFn.{length-map-range_with_len}
use Rattle.digit_tuple.specs.Deterministic.{accepting_of, states_of}
use Rattle.digit_tuple.proofs.AcceptingStateLemmas.{flag-accepting, flags-more}
use Rattle.digit_tuple.proofs.accepting_states.accepting_flags.Goals as goal

pub loop-state-preserved : goal.loop-state-preserved
loop-state-preserved c =
    flags-more c.args.d.now c.loop-state.flags.items c.push.new.self.items c.loop-state.state c.accepting.result c.loop-state.invariant c.accepting.ensures.accepting c.in_ok-push.ensures.items

pub returns-clause-size : goal.returns-clause-size
returns-clause-size c =
    omega (arith, ap (λ (fs : List Bool). length fs) c.loop-state.invariant, length-map-range_with_len (accepting_of c.args.d.now) 0 c.loop-state.state, c.loop-state-test.false, c.states-states.ensures.value)

pub returns-clause-flags : goal.returns-clause-flags
returns-clause-flags c q =
    let all : c.loop-state.state ≡ states_of c.args.d.now = omega (arith, c.loop-state-test.false, c.states-states.ensures.value) in
    flag-accepting c.args.d.now c.loop-state.flags.items (c.loop-state.invariant ∙ ap (λ n. map (accepting_of c.args.d.now) (range_with_len 0 n)) all) q
