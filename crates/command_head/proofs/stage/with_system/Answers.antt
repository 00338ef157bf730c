use Rattle.command_head.proofs.PartShape.{IsAscii-system}
use Rattle.command_head.proofs.stage.with_system.Goals as goal

pub name_of-requires : goal.name_of-requires
name_of-requires c = IsAscii-system c.args.part.now c.requires
