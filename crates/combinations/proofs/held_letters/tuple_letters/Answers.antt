use Rattle.std.proofs.Common.{◌≡◌, ℕ, List, [], length, ap, sym, subst, ◌∙◌, arith}
use Rattle.product_op.specs.Readings.{readings_in}
use Rattle.word_output.proofs.StateLetterLemmas.{letters_more}
use Rattle.combinations.specs.HeldLetters.{held_letter}
use Rattle.combinations.proofs.held_letters.tuple_letters.Goals as goal

pub tuple_letter-requires-clause-key : goal.tuple_letter-requires-clause-key
tuple_letter-requires-clause-key c =
    subst (λ (key : List ℕ). length key ≡ length c.args.readers.now) (sym c.key.ensures) (c.requires.keys c.loop-number.number [] (omega (arith, c.loop-number-test.true, c.len-number-end.ensures.len)))

pub loop-number-preserved : goal.loop-number-preserved
loop-number-preserved c =
    letters_more (held_letter c.args.rest c.args.parts.now (readings_in c.args.readers.now)) c.args.keys.now c.loop-number.number c.push.new.self.items c.loop-number.letters.items c.tuple_letter.result
    (omega (arith, c.loop-number-test.true, c.len-number-end.ensures.len)) c.in_ok-push.ensures.items c.loop-number.invariant
    (c.tuple_letter.ensures ∙ ap (held_letter c.args.rest c.args.parts.now (readings_in c.args.readers.now)) c.key.ensures)
