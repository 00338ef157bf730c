use Rattle.std.proofs.Common.{◌≡◌, take}
use Rattle.language_steps.proofs.headers.are_same.Given as goal

-- those before it are the same
abbrev pub invariant-loop-place : goal.invariant-loop-place
invariant-loop-place l = take l.place l.sets ≡ take l.place l.others
