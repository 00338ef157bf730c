-- How systems by their names are seen. Nobody has to believe this: it serves the type's model.
use Rattle.std.specs.Prelude.{List, map}
use Rattle.std.specs.Rc.{rc_value}
use Rattle.named_systems.specs.NamedSystems.{NamedSystem}
use Rattle.named_systems.specs.declared.systems.SystemEntry.{SystemEntry}

abbrev pub system_entry : SystemEntry → NamedSystem
system_entry e = record { name = e.name; system = rc_value e.system }

abbrev pub system_entries : List SystemEntry → List NamedSystem
system_entries es = map system_entry es
