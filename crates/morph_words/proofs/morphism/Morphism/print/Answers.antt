use Rattle.std.proofs.Common.{rules}
use Rattle.std.proofs.lemmas.Int.{to_z-of_z}
use mir.Val.{SFits}
use mir.Syntax.{w32}
use Rattle.morph_words.proofs.PrintSteps.{rules_more}
use Rattle.morph_words.proofs.morphism.Morphism.print.Goals as goal

pub loop-letter-preserved : goal.loop-letter-preserved
loop-letter-preserved c =
    let fits : SFits w32 c.in-Some-2.letter.now = search rules in
    rules_more c.loop-letter.text.items c.push_next_rule.new.text.items _ (c.in-Some-2.letter.now, c.in-Some-2.image.now) c.loop-letter.letter-iterator c.next-in-loop-letter.new.self c.in-Some-2.ensures.steps (simp to_z-of_z at c.in_ok-push_next_rule.ensures) c.loop-letter.invariant
