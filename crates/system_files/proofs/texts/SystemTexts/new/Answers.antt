use Rattle.std.proofs.Common.{None}
use Rattle.system_files.proofs.texts.SystemTexts.new.Goals as goal

pub invariant_of-result : goal.invariant_of-result
invariant_of-result c = (λ name. None, rw c.new.ensures.items tt)
