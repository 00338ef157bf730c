use Rattle.std.proofs.Common.{◌≡◌, ◌<◌, ◌^◌, [], ◌∷◌, ◌++◌, sym, ap, ◌∙◌, subst, arith, w32, to_z}
use Rattle.std.proofs.lemmas.Int.{to_z_pos}
use Rattle.digit_tuple.specs.Sets.{IsLetterSet}
use Rattle.digit_tuple.specs.Systems.{digit_set}
use Rattle.digit_tuple.proofs.SystemLemmas.{digit_set_more, IsLetterSet-digit_set}
use Rattle.digit_tuple.proofs.systems.digits_below.Goals as goal

pub loop-digit-preserved : goal.loop-digit-preserved
loop-digit-preserved c =
    let small : c.loop-digit.digit < 2 ^ 31 = omega (arith, c.loop-digit-test.true, c.requires.small) in
    c.in_ok-push.ensures.items
    ∙ ap (λ ds. ds ++ to_z w32 c.loop-digit.digit ∷ []) c.loop-digit.invariant
    ∙ ap (λ d. digit_set c.loop-digit.digit ++ d ∷ []) (to_z_pos w32 c.loop-digit.digit small)
    ∙ sym (digit_set_more c.loop-digit.digit)

pub new-requires : goal.new-requires
new-requires c =
    let same : c.loop-digit.digit ≡ c.args.count = omega (arith, c.loop-digit.auto.digit-end, c.loop-digit-test.false) in
    subst IsLetterSet (sym (c.loop-digit.invariant ∙ ap digit_set same)) (IsLetterSet-digit_set c.args.count c.requires)
