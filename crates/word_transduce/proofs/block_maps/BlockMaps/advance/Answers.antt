use Rattle.std.proofs.Common.{◌/◌, slice_index, ◌∙◌, arith}
use Rattle.std.proofs.lemmas.List.FromFn.{fill_by_all}
use Rattle.residual_classes.specs.Classes.{next_of}
use Rattle.word_transduce.specs.BlockMaps.{map_at, pairs_of}
use Rattle.word_transduce.proofs.block_maps.BlockMaps.advance.Goals as goal

pub returns : goal.returns
returns c =
    let t = c.args.self.now.transducer.now in
    let f = c.args.self.now.function.now in
    fill_by_all (λ pair. map_at c.args.ends.now t.states (next_of f.automaton (pair / t.states) c.args.digit) (slice_index c.args.states.now pair)) c.loop-pair.states (pairs_of t f) 0
    (c.loop-pair.invariant.count ∙ c.requires.states)
    (λ pair within. c.loop-pair.invariant.passed pair (omega (arith, within, c.loop-pair-test.false, c.loop-pair.invariant.count, c.requires.states)))
