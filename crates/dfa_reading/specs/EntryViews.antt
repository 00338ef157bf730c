-- What entries of the code mean.
use Rattle.dfa_reading.specs.Entries.{Entry, State, Line}
use Rattle.dfa_reading.specs.declared.read_entries.Entry.{Entry as EntryRead}
use Rattle.dfa_reading.specs.declared.read_entries.Entry.TheVariants as read

abbrev pub entry_view : EntryRead → Entry
entry_view (read.State n output) = State n output
entry_view (read.Line digits targets) = Line digits.items targets.items
