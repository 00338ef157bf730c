use Rattle.std.proofs.Common.{◌≡◌, take}
use Rattle.word_commands.proofs.combine.are_same.Given as goal

-- those before it are the same
abbrev pub invariant-loop-place : goal.invariant-loop-place
invariant-loop-place l = take l.place l.names ≡ take l.place l.others
