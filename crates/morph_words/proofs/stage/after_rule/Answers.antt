use Rattle.std.proofs.Common.{sym, subst, rules}
use Rattle.std.proofs.lemmas.Int.{to_z-of_z}
use mir.Val.{SFits}
use mir.Syntax.{w32}
use Rattle.morph_words.specs.Readings.{Reads, spot_view, stage_view}
use Rattle.morph_words.proofs.StageSteps.{letter_after_rule}
use Rattle.morph_words.proofs.stage.after_rule.Goals as goal

pub returns-in-Letter : goal.returns-in-Letter
returns-in-Letter c =
    let fits : SFits w32 c.in-Letter.letter = search rules in
    subst (Reads stage_view c.begun.result) (sym (letter_after_rule c.args.rules.entries (spot_view c.args.spot) c.in-Letter.letter c.in-Letter.is)) (simp to_z-of_z at c.begun.ensures)
