use Rattle.std.proofs.Common.{◌≡◌, length, map, slice_index, sym, ◌∙◌, arith}
use Rattle.std.proofs.lemmas.List.{ext_get_or, get_or-map, length-map}
use Rattle.word_transduce.proofs.packed_outputs.gather_numbers.Goals as goal

pub returns : goal.returns
returns c =
    let numbers = c.args.outputs.now in
    let places = c.args.places.now in
    let long : length c.loop-at.found ≡ length places = c.loop-at.invariant.count ∙ c.requires in
    ext_get_or 0 c.loop-at.found (map (λ place. slice_index numbers place) places) (long ∙ sym (length-map places (λ place. slice_index numbers place)))
    (λ i less. c.loop-at.invariant.passed i (omega (arith, less, long, c.loop-at-test.false)) ∙ sym (get_or-map (λ place. slice_index numbers place) places i 0 0 (omega (arith, less, long))))
