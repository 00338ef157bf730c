use Rattle.std.proofs.Common.{◌∙◌}
use Rattle.std.specs.FinMap.{insert}
use Rattle.macro_expand.proofs.MapSteps.{text_added}
use Rattle.macro_expand.proofs.macros.Macros.add.Goals as goal

pub returns-clause-ok : goal.returns-clause-ok
returns-clause-ok c =
    text_added c.self.inside.texts.entries c.insert.new.self.entries c.in_ok-name.name c.in_ok-text.text c.in_ok-insert.ensures.entries
    ∙ (λ i. insert (c.self.view_is i) (c.in_ok-name.ensures.items i) (c.in_ok-text.ensures.items i))
