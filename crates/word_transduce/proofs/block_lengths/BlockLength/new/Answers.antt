use Rattle.std.proofs.Common.{◌≡◌, drop, length, map, ap, ◌∙◌, arith}
use Rattle.std.specs.List.{range_with_len}
use Rattle.std.proofs.lemmas.List.{take_at}
use Rattle.digit_tuple.specs.Deterministic.{Automaton, letters_of}
use Rattle.digit_tuple.specs.Letters.{product}
use Rattle.word_transduce.specs.BlockLaws.{length-pairs}
use Rattle.word_transduce.specs.BlockMaps.{at_pairs, state_before}
use Rattle.word_transduce.specs.BlockLengths.{ends_part, place_in}
use Rattle.word_transduce.proofs.GatheredKeys.{lists_more, places_are}
use Rattle.word_transduce.proofs.StateLemmas.{advanced}
use Rattle.word_transduce.proofs.block_lengths.BlockLength.new.Goals as goal

pub places-requires-clause-states : goal.places-requires-clause-states
places-requires-clause-states c =
    let t = c.args.maps.now.transducer.now in
    let f = c.args.maps.now.function.now in
    ap length (c.deref.ensures.value ∙ c.loop-digit.invariant.states) ∙ length-pairs t f (state_before t f c.args.ends.now c.loop-digit.digit)

pub advance-requires-clause-states : goal.advance-requires-clause-states
advance-requires-clause-states c =
    let t = c.args.maps.now.transducer.now in
    let f = c.args.maps.now.function.now in
    ap length (c.deref_mut.ensures.value ∙ c.loop-digit.invariant.states) ∙ length-pairs t f (state_before t f c.args.ends.now c.loop-digit.digit)

pub loop-digit-preserved : goal.loop-digit-preserved
loop-digit-preserved c =
    let t = c.args.maps.now.transducer.now in
    let f = c.args.maps.now.function.now in
    let ends = c.args.ends.now in
    let digit = c.loop-digit.digit in
    let new = c.advance.new.states in
    let states = c.loop-digit.states in
    let size : length new ≡ states.len = omega (arith, c.advance.auto.states, c.deref_mut.ensures.len, states.ok) in
    record {
      states =
          take_at new (drop (length new) states.items) states.len size
          ∙ advanced t f ends c.deref_mut.result.now new digit (c.deref_mut.ensures.value ∙ c.loop-digit.invariant.states) c.advance.ensures;
      rows = lists_more (λ d. at_pairs t f (place_in t f ends d)) c.loop-digit.places.items c.push.new.self.items digit c.in_ok-row.row c.loop-digit.invariant.rows c.in_ok-push.ensures.items
          (places_are t f ends c.deref.result.now c.in_ok-row.row.items digit (c.deref.ensures.value ∙ c.loop-digit.invariant.states) c.in_ok-row.ensures);
    }

pub returns : goal.returns
returns c =
    let t = c.args.maps.now.transducer.now in
    let f = c.args.maps.now.function.now in
    let ends = c.args.ends.now in
    let letters : c.letters-letters.result ≡ letters_of f.automaton = c.letters-letters.ensures.value ∙ ap product (c.alphabet.ensures.sizes ∙ ap (λ (x : Automaton). x.sizes) c.dfa.ensures.value) in
    let all : c.loop-digit.digit ≡ letters_of f.automaton = omega (arith, c.loop-digit-test.false, c.loop-digit.auto.digit-end, letters) in
    record {
      form = c.are_packed-is_packed.ensures;
      rows = c.loop-digit.invariant.rows ∙ ap (λ n. map (λ d. at_pairs t f (place_in t f ends d)) (range_with_len 0 n)) all;
      ends_are = c.in_ok-ends.ensures ∙ ap (ends_part c.args.list.now) (c.deref-2.ensures.value ∙ c.loop-digit.invariant.states ∙ ap (λ n. at_pairs t f (state_before t f ends n)) all);
    }
