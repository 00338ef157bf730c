use Rattle.std.proofs.Common.{ℕ, List, ap, ◌∙◌, arith}
use Rattle.std.specs.Prelude.{slice_index}
use Rattle.word_output.specs.StateLetters.{letter_of_state}
use Rattle.word_output.proofs.StateLetterLemmas.{letters_more}
use Rattle.word_output.proofs.head_letters.head_letters.Goals as goal

pub loop-number-preserved : goal.loop-number-preserved
loop-number-preserved c =
    letters_more (λ key. letter_of_state c.args.function.now (slice_index key 0)) c.args.keys.now c.loop-number.number c.push.new.self.items c.loop-number.letters.items c.head_letter.result
    (omega (arith, c.loop-number-test.true, c.len-number-end.ensures.len)) c.in_ok-push.ensures.items c.loop-number.invariant
    (c.head_letter.ensures ∙ ap (λ (key : List ℕ). letter_of_state c.args.function.now (slice_index key 0)) c.key.ensures)
