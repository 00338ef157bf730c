use Rattle.std.proofs.Common.{◌≡◌, take}
use Rattle.dfa_loading.specs.Headers.{headers_of}
use Rattle.dfa_loading.proofs.headers.headers_of.Given as goal

abbrev pub invariant-loop-table : goal.invariant-loop-table
invariant-loop-table l = l.headers ≡ headers_of (take l.table-index l.tables)
