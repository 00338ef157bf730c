-- Words may end at the last places so far.
use Rattle.std.proofs.Common.{◌≡◌, ◌↔◌, ℕ, false, length, take}
use Rattle.std.specs.Prelude.{Contains, IsTrue, slice_index_or}
use Rattle.regex_build.proofs.next_places.ends_of.Given as goal

abbrev pub invariant-loop-last : goal.invariant-loop-last
invariant-loop-last l = record { count : length l.ends.items ≡ l.count; ends : (p : ℕ) → IsTrue (slice_index_or l.ends.items p false) ↔ Contains (take l.last-index l.lasts) p }
