-- The steps by which a word is changed to another base.
use Rattle.std.specs.Prelude.{◌≡◌, Result}
use Rattle.digit_tuple.specs.Steps.{StepLog}
use Rattle.digit_tuple.specs.declared.step_fault.StepFault.{StepFault}
use Rattle.base_k.specs.Positional.{base}
use Rattle.base_change.specs.Conversions.{DoesConversion}
use Rattle.num_system.specs.Sealed.{IsSealed, SystemValue, system_of}
use Rattle.word_output.specs.Words.{WordValue}
use Rattle.word_commands.specs.declared.base_system.BaseSystem.{BaseSystem}
use Rattle.word_commands.specs.declared.convert.Change.{Change}

-- the system is this base, sealed, and read in its direction
pub record IsSealedBase (s : BaseSystem) (system : SystemValue) : Type 0 where
  pub sealed : IsSealed system
  pub direction_is : system.direction ≡ s.direction
  pub base_is : system_of system ≡ base s.base

-- the steps of the conversion of a word to the new base are done, or refused
abbrev pub DoesConvert : Change → WordValue → StepLog → Result WordValue StepFault → StepLog → Type 0
DoesConvert change word old result new = (system : SystemValue) × IsSealedBase change.system system × DoesConversion word system change.common old result new
