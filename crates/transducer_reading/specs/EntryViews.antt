-- What entries of the code mean.
use Rattle.transducer_reading.specs.Entries.{Entry, State, Line}
use Rattle.transducer_reading.specs.declared.read_entry.Entry.{Entry as EntryRead}
use Rattle.transducer_reading.specs.declared.read_entry.Entry.TheVariants as read

abbrev pub entry_view : EntryRead → Entry
entry_view (read.State number) = State number
entry_view (read.Line letter target output) = Line letter (target, output)
