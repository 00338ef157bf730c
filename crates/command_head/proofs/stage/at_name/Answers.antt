use Rattle.std.proofs.Common.{sym, ◌∙◌}
use Rattle.command_head.proofs.PartShape.{IsAscii-name}
use Rattle.command_head.proofs.stage.at_name.Goals as goal

pub name_of-requires : goal.name_of-requires
name_of-requires c = IsAscii-name c.args.part.now (sym (c.is_name.ensures) ∙ c.if-is_name.true)
