use Rattle.std.proofs.Common.{subst, arith}
use Rattle.std.proofs.lemmas.List.{take_all}
use Rattle.determinise.specs.declared.bit_words.BitWord.{BitWord}
use Rattle.determinise.specs.Bits.{AreSet}
use Rattle.determinise.proofs.BitLemmas.{AreSet-none, AreSet-more}
use Rattle.determinise.proofs.bit_words.set_row.Goals as goal

pub loop-word-init : goal.loop-word-init
loop-word-init c = AreSet-none c.args.words.now

pub loop-word-preserved : goal.loop-word-preserved
loop-word-preserved c =
    let d : BitWord = record { place = 0; bits = 0 } in
    AreSet-more c.args.words.now c.loop-word.words c.args.row.now c.loop-word.word-index d c.loop-word-test.true
    (omega (arith, c.requires c.loop-word.word-index d c.loop-word-test.true)) c.loop-word.invariant

pub returns : goal.returns
returns c = subst (λ row. AreSet c.args.words.now row c.loop-word.words) (take_all c.loop-word.word-index c.args.row.now c.loop-word-test.false) c.loop-word.invariant
