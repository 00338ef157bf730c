use Rattle.std.proofs.Common.{ℕ, ◌<◌, [], List, length, ap, sym, subst, ◌∙◌, arith}
use Rattle.std.specs.Prelude.{None, slice_index, slice_index_or}
use Rattle.word_output.proofs.StateLetterLemmas.{letters_more}
use Rattle.word_output.proofs.letter_reading.listed_letters.Goals as goal

pub listed_letter-requires : goal.listed_letter-requires
listed_letter-requires c = subst (λ (key : List ℕ). 0 < length key) (sym c.key.ensures) (c.requires c.loop-number.number [] (omega (arith, c.loop-number-test.true, c.len-number-end.ensures.len)))

pub loop-number-preserved : goal.loop-number-preserved
loop-number-preserved c =
    letters_more (λ key. slice_index_or c.args.outputs.now (slice_index key 0) None) c.args.keys.now c.loop-number.number c.push.new.self.items c.loop-number.letters.items c.listed_letter.result
    (omega (arith, c.loop-number-test.true, c.len-number-end.ensures.len)) c.in_ok-push.ensures.items c.loop-number.invariant
    (c.listed_letter.ensures ∙ ap (λ (key : List ℕ). slice_index_or c.args.outputs.now (slice_index key 0) None) c.key.ensures)
