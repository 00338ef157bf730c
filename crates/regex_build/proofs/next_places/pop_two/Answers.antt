-- The last, and the last of the others.
use Rattle.std.proofs.Common.{◌++◌, ◌∷◌, [], ap, ◌∙◌}
use Rattle.regex_build.proofs.WaitingSteps.{popped}
use Rattle.regex_build.proofs.next_places.pop_two.Goals as goal

pub returns : goal.returns
returns c =
    popped c.args.waiting.now.items c.pop.new.self.items c.pop.result c.unwrap-right.result c.pop.ensures.items c.unwrap-right.ensures
    ∙ ap (λ xs. xs ++ c.unwrap-right.result ∷ []) (popped c.pop.new.self.items c.pop-2.new.self.items c.pop-2.result c.unwrap-left.result c.pop-2.ensures.items c.unwrap-left.ensures)
