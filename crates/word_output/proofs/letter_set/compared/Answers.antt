use Rattle.std.proofs.Common.{rules}
use Rattle.std.proofs.lemmas.Int.{to_z-of_z}
use mir.Val.{SFits}
use mir.Syntax.{w32}
use Rattle.word_output.specs.LetterSets.{HasComparedLetter}
use Rattle.word_output.proofs.LetterSetLemmas.{flags_more}
use Rattle.word_output.proofs.letter_set.compared.Goals as goal

pub loop-state-preserved : goal.loop-state-preserved
loop-state-preserved c =
    let fits : SFits w32 c.args.letter = search rules in
    let both = flags_more (HasComparedLetter c.args.comparison c.args.letter c.args.function.now) c.loop-state.flags.items c.push.new.self.items c.loop-state.state c.has_compared.result
    c.loop-state.invariant.count (simp to_z-of_z at c.loop-state.invariant.flags) c.in_ok-push.ensures.items (simp to_z-of_z at c.has_compared.ensures) in
    record { count = both.0; flags = simp to_z-of_z both.1 }
