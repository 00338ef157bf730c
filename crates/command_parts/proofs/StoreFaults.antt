-- Whether a fault is the store's.
use Rattle.std.specs.Prelude.{Bool}
use Rattle.std.specs.Option.{is_some}
use Rattle.command_parts.specs.declared.fault.Fault.{Fault}
use Rattle.command_parts.specs.StoreFailures.{failed_at}

-- whether a fault is the store's
abbrev pub is_store_fault : Fault → Bool
is_store_fault fault = is_some (failed_at fault)
