use Rattle.std.proofs.Common.{◌≡◌, drop}
use Rattle.dfa_reading.specs.Entries.{digits_of}
use Rattle.dfa_reading.specs.Headers.{digits_in}
use Rattle.dfa_reading.specs.HeaderViews.{header_view}
use Rattle.dfa_reading.specs.Lines.{parts_of}
use Rattle.dfa_reading.proofs.ReadHeaders.{with_prefix}
use Rattle.dfa_reading.proofs.read_entries.digits.Given as goal

abbrev pub invariant-loop-track : goal.invariant-loop-track
invariant-loop-track l = with_prefix l.digits.items (digits_of (drop l.track (digits_in (header_view l.header))) (parts_of l.rest)) ≡ digits_of (digits_in (header_view l.header)) (parts_of l.text)
