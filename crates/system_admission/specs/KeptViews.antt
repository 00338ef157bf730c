-- How kept systems are seen. Nobody has to believe this: it serves the type's model.
use Rattle.std.specs.Prelude.{List, map}
use Rattle.std.specs.Rc.{rc_value}
use Rattle.system_admission.specs.KeptSystems.{KeptSystem, Pair}
use Rattle.system_admission.specs.declared.kept.Entry.{Entry}
use Rattle.system_admission.specs.declared.pair.SystemPair.{SystemPair}

abbrev pub pair_view : SystemPair → Pair
pair_view p = record { direction = p.direction; name = p.name; language = p.language.now; adder = p.adder.now }

abbrev pub kept_system : Entry → KeptSystem
kept_system e = record { pair = record { direction = e.direction; name = e.name; language = e.language.items; adder = e.adder.items }; limit = e.limit; lines = e.lines.items; system = rc_value e.system }

abbrev pub kept_systems : List Entry → List KeptSystem
kept_systems es = map kept_system es
