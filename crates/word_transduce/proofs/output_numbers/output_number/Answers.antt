use Rattle.std.proofs.Common.{◌≡◌, ◌+◌, ◌<◌, ℕ, false, length, get_or, None, pos, sym, ap, ◌∙◌, arith}
use Rattle.std.proofs.lemmas.Int.{to_z-of_z}
use mir.Val.{SFits}
use mir.Syntax.{w32}
use Rattle.transducer_reading.specs.declared.transducer.TransducerLine.{TransducerLine}
use Rattle.word_transduce.specs.BlockMaps.{is_output}
use Rattle.word_transduce.proofs.StateLemmas.{position_is}
use Rattle.word_transduce.proofs.output_numbers.output_number.Goals as goal

pub returns-then-has_output : goal.returns-then-has_output
returns-then-has_output c =
    let z : TransducerLine = record { state = 0; letter = None; target = 0; output = pos 0 } in
    let lines = c.args.lines.now in
    let k = c.loop-place.place in
    let fits : SFits w32 c.args.output = c.ranges.output in
    let before : (i : ℕ) → i < k → is_output c.args.state c.args.output (get_or lines i z) ≡ false = simp to_z-of_z at c.loop-place.invariant in
    let says : c.has_output.result ≡ is_output c.args.state c.args.output (get_or lines k z) = simp to_z-of_z at c.has_output.ensures in
    ap (λ n. n + 1) (sym (position_is (is_output c.args.state c.args.output) lines k z (omega (arith, c.loop-place-test.true)) before (λ less. sym says ∙ c.if-has_output.true)))

pub returns : goal.returns
returns c =
    let z : TransducerLine = record { state = 0; letter = None; target = 0; output = pos 0 } in
    let lines = c.args.lines.now in
    let fits : SFits w32 c.args.output = c.ranges.output in
    let before : (i : ℕ) → i < c.loop-place.place → is_output c.args.state c.args.output (get_or lines i z) ≡ false = simp to_z-of_z at c.loop-place.invariant in
    ap (λ n. n + 1) (sym (position_is (is_output c.args.state c.args.output) lines (length lines) z (omega arith)
    (λ i less. before i (omega (arith, less, c.loop-place-test.false))) (λ less. absurd (omega (arith, less)))))
