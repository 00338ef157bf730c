use Rattle.std.proofs.lemmas.Int.{to_z-of_z}
use mir.Val.{SFits}
use mir.Syntax.{w32}
use Rattle.morph_words.proofs.StageSteps.{begun_refused}
use Rattle.morph_words.proofs.stage.begun.Goals as goal

pub returns-then-contains_key : goal.returns-then-contains_key
returns-then-contains_key c =
    let fits : SFits w32 c.args.letter = c.ranges.letter in
    begun_refused c.args.rules.entries c.args.letter c.args.at c.contains_key.result (simp to_z-of_z at c.contains_key.ensures) c.if-contains_key.true
