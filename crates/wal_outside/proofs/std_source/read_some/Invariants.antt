use Rattle.std.specs.Io.KnownBytes.{Keeps}
use Rattle.wal_outside.proofs.std_source.read_some.Given as goal

-- the tries that were interrupted took nothing
abbrev pub invariant-tries : goal.invariant-tries
invariant-tries g l = Keeps (g.R.Read.remaining l.initial.reader) (g.R.Read.remaining l.reader)
