use Rattle.std.proofs.Common.{rules}
use Rattle.std.proofs.lemmas.Int.{to_z-of_z}
use mir.Val.{SFits}
use mir.Syntax.{w32}
use Rattle.digit_tuple.proofs.SetLemmas.{searchable, none_between}
use Rattle.word_output.proofs.state_letters.class_in.Goals as goal

pub returns-in-Err-clause-class : goal.returns-in-Err-clause-class
returns-in-Err-clause-class c =
    let fits : SFits w32 c.in-Some.letter = search rules in
    let parted = simp to_z-of_z at c.in-Err.ensures.position in
    absurd (none_between c.args.found.now c.in-Some.letter c.in-Err.field-0 (parted (searchable c.args.found.now c.in-Some.letter c.requires.ascending)) (c.requires.there c.in-Some.letter c.in-Some.is))
