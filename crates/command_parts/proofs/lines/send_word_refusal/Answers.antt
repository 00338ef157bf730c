use Rattle.std.proofs.Common.{rules}
use Rattle.std.proofs.lemmas.Int.{to_z-of_z}
use mir.Val.{SFits}
use mir.Syntax.{w32}
use Rattle.command_parts.proofs.lines.send_word_refusal.Goals as goal

pub returns-in-Morphism : goal.returns-in-Morphism
returns-in-Morphism g c = rw c.in-Morphism.is c.send_kind.ensures

pub returns-in-LetterMissing : goal.returns-in-LetterMissing
returns-in-LetterMissing g c =
    let fits : SFits w32 c.in-LetterMissing.letter = search rules in
    rw c.in-LetterMissing.is (simp to_z-of_z at c.send_signed.ensures)

pub returns-in-TestLong : goal.returns-in-TestLong
returns-in-TestLong g c = rw c.in-TestLong.is c.send.ensures.sent
