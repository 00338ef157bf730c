use Rattle.language_commands.proofs.RegSoundness.{reg_sound}
use Rattle.language_commands.proofs.reg.one_outcome.Goals as goal

pub returns : goal.returns
returns c = λ limit ledger text. (reg_sound limit ledger text).single
