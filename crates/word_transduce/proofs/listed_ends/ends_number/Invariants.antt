use Rattle.std.proofs.Common.{◌≡◌, ℕ, ◌<◌, false, get_or, []}
use Rattle.std.specs.Cmp.Lexicographic.{pointwise}
use Rattle.std.specs.Prelude.{nat_eq}
use Rattle.word_transduce.proofs.listed_ends.ends_number.Given as goal

abbrev pub invariant-loop-number : goal.invariant-loop-number
invariant-loop-number l = (k : ℕ) → k < l.number → pointwise nat_eq (get_or l.list k []) l.ends ≡ false
