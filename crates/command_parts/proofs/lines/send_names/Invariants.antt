use Rattle.std.proofs.Common.{take}
use Rattle.wal_outside.specs.Sending.{HasSent}
use Rattle.command_parts.specs.Lines.{names_text}
use Rattle.command_parts.proofs.lines.send_names.Given as goal

-- the names so far were handed over
abbrev pub invariant-loop-name : goal.invariant-loop-name
invariant-loop-name g l = HasSent (g.K.Sink.view l.initial.out) (names_text (take l.name-index l.names)) (g.K.Sink.view l.out)
