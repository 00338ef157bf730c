use Rattle.std.proofs.Common.{subst}
use Rattle.base_change.specs.Roots.{HaveNoRoot}
use Rattle.word_commands.specs.declared.base_system.BaseSystem.{BaseSystem}
use Rattle.word_commands.proofs.BaseNames.{one_base}
use Rattle.word_commands.proofs.convert.change_to.Goals as goal

pub returns-in-None : goal.returns-in-None
returns-in-None c = λ s is. subst (λ (t : BaseSystem). HaveNoRoot c.args.over.base t.base) (one_base c.args.name.now c.in_ok-system.system s c.in_ok-system.ensures is) c.in-None.ensures
