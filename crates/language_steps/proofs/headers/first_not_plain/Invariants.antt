use Rattle.language_steps.proofs.HeaderLemmas.{IsLeft}
use Rattle.language_steps.proofs.headers.first_not_plain.Given as goal

-- none before it is the first
abbrev pub invariant-loop-table : goal.invariant-loop-table
invariant-loop-table l = IsLeft l.tables l.table-index
