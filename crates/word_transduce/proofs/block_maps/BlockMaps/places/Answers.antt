use Rattle.std.proofs.Common.{◌/◌, slice_index, ap, ◌∙◌}
use Rattle.residual_classes.specs.Classes.{next_of}
use Rattle.word_transduce.specs.BlockMaps.{pairs_of}
use Rattle.word_transduce.specs.BlockLengths.{place_at}
use Rattle.word_transduce.proofs.PushLemmas.{values_more}
use Rattle.word_transduce.proofs.block_maps.BlockMaps.places.Goals as goal

pub loop-pair-preserved : goal.loop-pair-preserved
loop-pair-preserved c =
    let t = c.args.self.now.transducer.now in
    let f = c.args.self.now.function.now in
    let k = c.loop-pair.pair in
    let states = c.args.states.now in
    values_more (λ pair. place_at (pairs_of t f) t.states (next_of f.automaton (pair / t.states) c.args.digit) (slice_index states pair)) c.loop-pair.places.items c.push.new.self.items k c.place_at.result c.loop-pair.invariant c.in_ok-push.ensures.items
    (c.place_at.ensures
    ∙ ap (λ n. place_at n c.states-count.result c.target-target.result (slice_index states k)) c.pairs-pairs.ensures
    ∙ ap (λ n. place_at (pairs_of t f) n c.target-target.result (slice_index states k)) c.states-count.ensures.value
    ∙ ap (λ q. place_at (pairs_of t f) t.states q (slice_index states k)) c.target-target.ensures
    ∙ ap (λ n. place_at (pairs_of t f) t.states (next_of f.automaton (k / n) c.args.digit) (slice_index states k)) c.states-count.ensures.value)
