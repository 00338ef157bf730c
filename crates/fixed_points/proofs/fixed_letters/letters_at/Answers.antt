use Rattle.std.proofs.Common.{rules, ℕ, ℤ, ◌<◌, [], List, Some, length, ap, sym, subst, ◌∙◌, arith}
use Rattle.std.specs.Int.{cast_signed, cast_unsigned, w32}
use Rattle.std.proofs.lemmas.Int.{to_z-of_z}
use mir.Val.{SFits}
use Rattle.word_output.proofs.StateLetterLemmas.{letters_more}
use Rattle.fixed_points.specs.LetterGraph.{letter_of}
use Rattle.fixed_points.proofs.fixed_letters.letters_at.Goals as goal

pub letter_of-requires : goal.letter_of-requires
letter_of-requires c = subst (λ (key : List ℕ). 0 < length key) (sym c.key.ensures) (c.requires c.loop-number.number [] (omega (arith, c.loop-number-test.true, c.len-number-end.ensures.len)))

pub loop-number-preserved : goal.loop-number-preserved
loop-number-preserved c =
    let letter : ℤ = c.letter_of.result in
    let fits : SFits w32 letter = search rules in
    letters_more (λ key. Some (letter_of key)) c.args.keys.now c.loop-number.number c.push.new.self.items c.loop-number.letters.items (Some (cast_signed w32 (cast_unsigned w32 letter)))
    (omega (arith, c.loop-number-test.true, c.len-number-end.ensures.len)) c.in_ok-push.ensures.items c.loop-number.invariant
    (ap Some (to_z-of_z w32 letter fits ∙ c.letter_of.ensures ∙ ap letter_of c.key.ensures))
