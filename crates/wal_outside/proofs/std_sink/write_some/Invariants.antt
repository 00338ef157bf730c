use Rattle.std.specs.Io.KnownBytes.{Keeps}
use Rattle.wal_outside.proofs.std_sink.write_some.Given as goal

-- the tries that were interrupted appended nothing
abbrev pub invariant-tries : goal.invariant-tries
invariant-tries g l = Keeps (g.W.Write.contents l.initial.writer) (g.W.Write.contents l.writer)
