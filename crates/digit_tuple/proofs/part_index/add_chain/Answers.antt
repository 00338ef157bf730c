use Rattle.std.proofs.Common.{◌∷◌, ◌++◌, [], ap, sym, ◌∙◌, arith}
use Rattle.std.proofs.lemmas.List.{append-nil, append_assoc}
use Rattle.digit_tuple.proofs.PartIndexLemmas.{IsChain-letter, IsChain-end, IsChain-one}
use Rattle.digit_tuple.proofs.part_index.add_chain.Goals as goal

pub loop-letter-init : goal.loop-letter-init
loop-letter-init c =
    (c.requires.0, c.requires.1, λ chain is. ap (λ ls. c.args.letters.now.items ++ ls) (IsChain-one c.args.next.now c.args.first chain c.requires.0 is c.requires.1))

pub loop-letter-smaller : goal.loop-letter-smaller
loop-letter-smaller c =
    let rest = IsChain-letter c.args.next.now c.loop-letter.letter c.loop-letter.invariant.0 c.loop-letter-test.true c.loop-letter.invariant.1 in
    omega (arith, rest.2, c.loop-letter-test.true)

pub loop-letter-preserved : goal.loop-letter-preserved
loop-letter-preserved c =
    let before = c.loop-letter.letters.items in
    let letter = c.loop-letter.letter in
    let rest = IsChain-letter c.args.next.now letter c.loop-letter.invariant.0 c.loop-letter-test.true c.loop-letter.invariant.1 in (
      rest.0,
      rest.3,
      λ chain is. c.loop-letter.invariant.2 chain is ∙ ap (λ ls. before ++ ls) rest.1 ∙ sym (append_assoc before (letter ∷ []) rest.0) ∙ ap (λ ls. ls ++ rest.0) (sym c.in_ok-push.ensures.items),
    )

pub returns : goal.returns
returns c chain is =
    let before = c.loop-letter.letters.items in
    sym (c.loop-letter.invariant.2 chain is
    ∙ ap (λ ls. before ++ ls) (IsChain-end c.args.next.now c.loop-letter.letter c.loop-letter.invariant.0 c.loop-letter-test.false c.loop-letter.invariant.1)
    ∙ append-nil before)
