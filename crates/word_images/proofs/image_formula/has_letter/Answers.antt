use Rattle.std.proofs.Common.{rules, of_z, to_z, w32}
use Rattle.std.proofs.lemmas.Int.{to_z-of_z}
use mir.Val.{SFits}
use Rattle.word_images.proofs.TreeLemmas.{letter_made, pushed_first}
use Rattle.word_images.proofs.image_formula.has_letter.Goals as goal

pub returns : goal.returns
returns c =
    let fits : SFits w32 c.args.letter = search rules in
    letter_made c.in_ok-copy.field-0 c.args.system.now c.in_ok-new.field-0 c.in_ok-word.word c.push.new.self c.args.place (to_z w32 (of_z w32 c.args.letter)) c.args.letter c.in_ok-copy.ensures (to_z-of_z w32 c.args.letter fits)
    (pushed_first c.new-places.result.items c.push.new.self.items _ c.new-places.ensures.items c.in_ok-push.ensures.items) c.in_ok-new.ensures c.in_ok-word.ensures
