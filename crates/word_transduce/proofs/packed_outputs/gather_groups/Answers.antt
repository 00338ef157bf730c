use Rattle.std.proofs.Common.{◌≡◌, ℕ, true, List, length, map, slice_index, sym, ap, ◌∙◌, arith}
use Rattle.std.proofs.lemmas.List.{length-map}
use Rattle.std.proofs.lemmas.List.FromFn.{fill_by_all}
use Rattle.word_transduce.specs.PackedOutputs.{group_of, packed_len}
use Rattle.word_transduce.proofs.packed_outputs.gather_groups.Goals as goal

pub returns : goal.returns
returns c =
    let outputs = c.args.outputs.now in
    let places = c.args.places.now in
    let gathered : List ℕ = map (λ place. slice_index outputs place) places in
    let long : length c.loop-group.found ≡ packed_len true (length gathered) = c.loop-group.invariant.count ∙ c.requires ∙ ap (packed_len true) (sym (length-map places (λ place. slice_index outputs place))) in
    fill_by_all (group_of gathered) c.loop-group.found (packed_len true (length gathered)) 0 long
    (λ at within. c.loop-group.invariant.passed at (omega (arith, within, long, c.loop-group-test.false, c.loop-group.invariant.count)))
