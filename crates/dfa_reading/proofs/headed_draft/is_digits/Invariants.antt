use Rattle.std.proofs.Common.{◌≡◌, ℕ, ◌<◌, length, get_or, pos}
use Rattle.dfa_reading.proofs.headed_draft.is_digits.Given as goal

-- there are so many members, and the earlier ones are the digits from 0 on
abbrev pub invariant-loop-place : goal.invariant-loop-place
invariant-loop-place l = record {
  members : l.members ≡ l.set;
  count : length l.set ≡ l.digits;
  prefix : (k : ℕ) → k < l.place → get_or l.members k (pos 0) ≡ pos k;
}
