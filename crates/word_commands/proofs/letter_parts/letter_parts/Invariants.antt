use Rattle.std.proofs.Common.{take}
use Rattle.word_commands.specs.LetterParts.{AreBuilt, AreLetterParts}
use Rattle.word_commands.specs.LetterSettings.{library_in}
use Rattle.word_commands.proofs.letter_parts.letter_parts.Given as goal

-- the formulas of the letters so far were built
abbrev pub invariant-loop-letter : goal.invariant-loop-letter
invariant-loop-letter l = record {
  built : AreBuilt (library_in l.formulas.setting.now) l.formulas.system.now l.formulas.length l.initial.steps (take l.letter-index l.letters) l.parts.items l.steps;
  parts : AreLetterParts l.formulas.setting.now l.formulas.system.now l.formulas.length l.parts.items;
}
