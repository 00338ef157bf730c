use Rattle.std.proofs.Common.{◌≡◌, drop}
use Rattle.named_systems.specs.NamedSystems.{system_named}
use Rattle.named_systems.specs.SystemViews.{system_entries}
use Rattle.named_systems.proofs.systems.NamedSystems.get.Given as goal

-- the entries before have other names
abbrev pub invariant-loop-entry : goal.invariant-loop-entry
invariant-loop-entry l = system_named (system_entries (drop l.entry-index l.entry-items)) l.name ≡ system_named l.self l.name
