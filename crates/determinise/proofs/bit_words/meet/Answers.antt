use Rattle.std.proofs.Common.{◌≡◌, ◌^◌, ◌<◌, get_or, ◌⊎◌, inl, inr, refl, subst, arith}
use Rattle.std.proofs.lemmas.Bool.{cases_eq}
use Rattle.determinise.specs.Bits.{HasBit}
use Rattle.determinise.proofs.BitLemmas.{common_bit, no_common_bit}
use Rattle.determinise.proofs.bit_words.meet.Goals as goal

pub returns-then-words-place-ne0 : goal.returns-then-words-place-ne0
returns-then-words-place-ne0 c =
    let a = get_or c.args.words.now c.loop-place.place 0 in
    let small : a < 2 ^ 32 = omega (arith, c.type_inv.words c.loop-place.place) in
    let found = common_bit a (get_or c.args.others.now c.loop-place.place 0) small c.if-words-place-ne0.true in
    ((λ is. (c.loop-place.place, found.0, found.1, found.2)), (λ there. refl))

pub loop-place-preserved : goal.loop-place-preserved
loop-place-preserved c place bit within one two = by (cases_eq place c.loop-place.place)
  where
    by : (place ≡ c.loop-place.place) ⊎ (place ≡ c.loop-place.place → ⊥) → ⊥
    by (inl same) =
        no_common_bit (get_or c.args.words.now c.loop-place.place 0) (get_or c.args.others.now c.loop-place.place 0) bit c.if-words-place-ne0.false
        (subst (λ p. HasBit c.args.words.now p bit) same one) (subst (λ p. HasBit c.args.others.now p bit) same two)
    by (inr other) = c.loop-place.invariant place bit (omega (arith, other)) one two
