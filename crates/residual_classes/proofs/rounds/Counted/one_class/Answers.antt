use Rattle.std.proofs.Common.{◌≡◌, ◌+◌, ℕ, replicate, ap, ◌∙◌}
use Rattle.digit_tuple.specs.Deterministic.{states_of}
use Rattle.residual_classes.proofs.RoundLemmas.{AreCounted-one}
use Rattle.residual_classes.proofs.rounds.Counted.one_class.Goals as goal

pub returns-clause-counted : goal.returns-clause-counted
returns-clause-counted c =
    let d = c.args.machine.now.dfa.now in
    let count : c.states-states.result ≡ states_of d = c.states-states.ensures.value in
    let classes : c.in_ok-vec.field-0.items ≡ replicate (states_of d + 1) 0 = c.in_ok-vec.ensures.items_if_clones_equal (λ y is. is) ∙ ap (λ (n : ℕ). replicate (n + 1) 0) count in
    AreCounted-one d c.args.machine.now.outputs.now (record { classes = c.in_ok-vec.field-0; largest = c.states-states.result }) classes count
