use Rattle.std.proofs.Common.{◌≡◌, ◌++◌, ◌-◌, List, ℕ, length}
use Rattle.digit_tuple.specs.PartChains.{IsChain}
use Rattle.digit_tuple.proofs.part_index.add_chain.Given as goal

abbrev pub invariant-loop-letter : goal.invariant-loop-letter
invariant-loop-letter l = (rest : List ℕ) × IsChain l.next l.letter rest × ((chain : List ℕ) → IsChain l.next l.first chain → l.fn.letters.items ++ chain ≡ l.letters.items ++ rest)

abbrev pub decreases-loop-letter : goal.decreases-loop-letter
decreases-loop-letter l = length l.next - l.letter
