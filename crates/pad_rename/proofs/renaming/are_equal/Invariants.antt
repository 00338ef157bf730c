use Rattle.std.proofs.Common.{◌≡◌, ℕ, ◌<◌, [], length, get_or}
use Rattle.pad_rename.proofs.renaming.are_equal.Given as goal

abbrev pub invariant-loop-place : goal.invariant-loop-place
invariant-loop-place l = (length l.a ≡ length l.b) × ((k : ℕ) → k < l.place → get_or l.a k [] ≡ get_or l.b k [])
