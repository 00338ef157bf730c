use Rattle.std.proofs.Common.{ℕ, ◌+◌, ◌/◌, ◌<◌, ◌∷◌, [], drop, length, get_or, sym, ap, ◌∙◌, arith}
use Rattle.std.proofs.lemmas.List.{at_drop_all, at_drop_more, get_or_default}
use Rattle.determinise.specs.Bits.{with_bits}
use Rattle.determinise.proofs.BitSetLemmas.{length-with_bits, with_bit-set}
use Rattle.determinise.proofs.bit_words.bits_of.Goals as goal

pub index_mut-requires : goal.index_mut-requires
index_mut-requires c = omega (arith, c.requires c.loop-number.number-index 0 c.loop-number-test.true, c.loop-number.invariant.length)

pub loop-number-preserved : goal.loop-number-preserved
loop-number-preserved c =
    let words = c.loop-number.words.items in
    let numbers = c.args.numbers.now in
    let i = c.loop-number.number-index in
    let number : ℕ = get_or numbers i 0 in
    let inside : number / 32 < length words = omega (arith, c.requires i 0 c.loop-number-test.true, c.loop-number.invariant.length) in
    let made = with_bit-set words number c.index_mut.result.now (c.index_mut.ensures.value ∙ get_or_default words (number / 32) _ 0 inside) in
    record {
      length = ap length made ∙ length-with_bits words (number ∷ []) ∙ c.loop-number.invariant.length;
      rest = ap (λ ws. with_bits ws (drop (i + 1) numbers)) made ∙ sym (at_drop_more (with_bits words) numbers i 0 c.loop-number-test.true) ∙ c.loop-number.invariant.rest;
    }

pub returns : goal.returns
returns c = sym (at_drop_all (with_bits c.loop-number.words.items) c.args.numbers.now c.loop-number.number-index c.loop-number-test.false) ∙ c.loop-number.invariant.rest
