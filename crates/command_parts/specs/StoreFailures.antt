-- The place at which the store failed, of a fault.
use Rattle.std.specs.Prelude.{Option, None, Some}
use Rattle.wal_outside.specs.Places.{Place}
use Rattle.command_parts.specs.declared.fault.Fault.{Fault}
use Rattle.command_parts.specs.declared.fault.Fault.TheVariants as faults

-- the file of a store fault
abbrev pub failed_at : Fault → Option Place
failed_at (faults.Store folder name) = Some (folder, name)
failed_at _ = None
