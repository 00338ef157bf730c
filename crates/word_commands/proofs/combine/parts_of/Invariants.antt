use Rattle.std.proofs.Common.{take}
use Rattle.word_commands.specs.CombineMakes.{automata_in}
use Rattle.word_commands.specs.CombineSteps.{ArePartsFrom}
use Rattle.word_commands.proofs.combine.parts_of.Given as goal

-- those before it have their relations
abbrev pub invariant-loop-place : goal.invariant-loop-place
invariant-loop-place l = ArePartsFrom l.library.relations 0 (automata_in (take l.place l.automata)) l.parts.items
