-- The states of a level, whatever form they have.
use Rattle.std.specs.Prelude.{Bool, List}
use Rattle.word_walk.specs.declared.level.LevelStates.{LevelStates}
use Rattle.word_walk.specs.declared.level.LevelStates.TheVariants.{Few, Flags}

-- for each state whether it is among them
abbrev pub flags_in : LevelStates → List Bool
flags_in (Few flags) = flags
flags_in (Flags flags) = flags.items
