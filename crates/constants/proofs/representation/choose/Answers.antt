use Rattle.std.proofs.Common.{◌≡◌, suc, ◌+◌, ◌-◌, [], ◌∷◌, ◌++◌, sym, subst, add-one, arith}
use Rattle.digit_tuple.specs.Deterministic.{letters_of}
use Rattle.constants.specs.Continuations.{read, continuations, continuations_below}
use Rattle.constants.proofs.CappedLemmas.{capped-exact}
use Rattle.constants.proofs.PlaceLemmas.{below-suc}
use Rattle.constants.proofs.representation.choose.Goals as goal

pub loop-digit-preserved : goal.loop-digit-preserved
loop-digit-preserved c = λ direction w n prefix are.
    let a = c.args.language.now in
    let digit = c.loop-digit.digit in
    let before : continuations_below (letters_of a) (read direction a) w n digit + c.loop-digit.rest ≡ c.args.number = c.loop-digit.invariant direction w n prefix are in
    let more : continuations_below (letters_of a) (read direction a) w n (suc digit) ≡ continuations_below (letters_of a) (read direction a) w n digit + continuations (letters_of a) (read direction a) (w ++ digit ∷ []) n =
    below-suc (letters_of a) (read direction a) w n digit in
    let exact : c.count-count.result ≡ continuations (letters_of a) (read direction a) (w ++ digit ∷ []) n =
    capped-exact c.count-count.result c.loop-digit.rest (continuations (letters_of a) (read direction a) (w ++ digit ∷ []) n) (c.count-count.ensures direction a (w ++ digit ∷ []) n c.alphabet.ensures.table (c.in_ok-next.ensures.prefix direction w prefix) are) (omega (arith, c.if-from-count.false, c.from.ensures)) (omega (arith, before, c.ranges.number.fits)) in
    subst (λ k. continuations_below (letters_of a) (read direction a) w n k + (c.loop-digit.rest - c.count-count.result) ≡ c.args.number) (sym (add-one digit))
    (omega (arith, before, more, exact))
