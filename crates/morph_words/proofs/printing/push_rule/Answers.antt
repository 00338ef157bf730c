use Rattle.std.proofs.Common.{get_or, pos, refl, arith, rules}
use Rattle.std.proofs.lemmas.Int.{to_z-of_z}
use mir.Val.{SFits}
use mir.Syntax.{w32}
use Rattle.morph_words.proofs.PrintSteps.{letters_more, rule_pushed}
use Rattle.morph_words.proofs.printing.push_rule.Goals as goal

pub loop-letter-preserved : goal.loop-letter-preserved
loop-letter-preserved c =
    let letters = c.letters-letter-items.result.now in
    let letter = get_or letters c.loop-letter.letter-index (pos 0) in
    let fits : SFits w32 letter = search rules in
    letters_more c.extend_from_slice.new.self.items c.loop-letter.text.items c.push_letter-in-loop-letter.new.text.items letters c.loop-letter.letter-index letter (pos 0) (omega arith) refl c.loop-letter.invariant (simp to_z-of_z at c.in_ok-push_letter-2.ensures)

pub returns : goal.returns
returns c =
    let fits : SFits w32 c.args.letter = c.ranges.letter in
    rule_pushed c.args.text.now.items c.push_letter.new.text.items c.extend_from_slice.new.self.items c.loop-letter.text.items c.args.letter c.letters-letter-items.result.now c.args.image.now c.loop-letter.letter-index (simp to_z-of_z at c.in_ok-push_letter.ensures) c.in_ok-extend_from_slice.ensures.items c.letters-letter-items.ensures (omega arith) c.loop-letter.invariant
