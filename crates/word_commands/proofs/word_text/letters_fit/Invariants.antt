use Rattle.std.proofs.Common.{take}
use Rattle.std.specs.Int.{w32}
use Rattle.std.specs.List.{All}
use Rattle.std.specs.Prelude.{FitsSigned}
use Rattle.word_commands.proofs.word_text.letters_fit.Given as goal

-- those before it fit
abbrev pub invariant-loop-letter : goal.invariant-loop-letter
invariant-loop-letter l = All (λ letter. FitsSigned w32 letter) (take l.letter-index l.letter-items)
