-- How what is known is seen. Nobody has to believe this: it serves the contracts of functions.
use Rattle.plan_relations.specs.Libraries.{LibraryValue}
use Rattle.plan_relations.specs.declared.known.Known.{Known}

-- what the two parts of what is known give
abbrev pub known_value : Known → LibraryValue
known_value k = record { relations = k.read.now.relations; words = k.read.now.words; systems = k.systems.now }
