use Rattle.std.proofs.Common.{◌≡◌, drop, length, ap, ◌∙◌, arith}
use Rattle.std.proofs.lemmas.List.{take_at}
use Rattle.word_transduce.specs.BlockLaws.{length-pairs}
use Rattle.word_transduce.specs.BlockMaps.{state_before}
use Rattle.word_transduce.proofs.StateLemmas.{advanced}
use Rattle.word_transduce.proofs.block_maps.BlockMaps.ends_after.Goals as goal

pub advance-requires-clause-states : goal.advance-requires-clause-states
advance-requires-clause-states c =
    let t = c.args.self.now.transducer.now in
    let f = c.args.self.now.function.now in
    ap length (c.deref_mut.ensures.value ∙ c.loop-digit.invariant) ∙ length-pairs t f (state_before t f c.args.ends.now c.loop-digit.digit)

pub loop-digit-preserved : goal.loop-digit-preserved
loop-digit-preserved c =
    let t = c.args.self.now.transducer.now in
    let f = c.args.self.now.function.now in
    let new = c.advance.new.states in
    let states = c.loop-digit.states in
    let size : length new ≡ states.len = omega (arith, c.advance.auto.states, c.deref_mut.ensures.len, states.ok) in
    take_at new (drop (length new) states.items) states.len size
    ∙ advanced t f c.args.ends.now c.deref_mut.result.now new c.loop-digit.digit (c.deref_mut.ensures.value ∙ c.loop-digit.invariant) c.advance.ensures
