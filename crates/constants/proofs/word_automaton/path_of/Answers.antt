use Rattle.std.proofs.Common.{ap, ◌∙◌}
use Rattle.digit_tuple.specs.Deterministic.{Automaton}
use Rattle.constants.proofs.WordPathLemmas.{path_next}
use Rattle.constants.proofs.word_automaton.path_of.Goals as goal

pub loop-place-preserved : goal.loop-place-preserved
loop-place-preserved c =
    let more = c.in_ok-next.ensures in
    let set = c.in_ok-set.ensures.set in
    let old = c.loop-place.invariant in (
      set.sizes ∙ ap (λ (d : Automaton). d.sizes) more.state ∙ old.0,
      path_next c.args.letters.now c.loop-place.place c.in_ok-next.next c.loop-place.builder c.add_state-in-loop-place.new.self c.set.new.self old.1 more.state more.number set,
    )
