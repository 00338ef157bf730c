-- What headers of the code mean.
use Rattle.dfa_reading.specs.Headers.{Header, Truth, Systems, Sets}
use Rattle.dfa_reading.specs.declared.header.FileHeader.{FileHeader}
use Rattle.dfa_reading.specs.declared.header.FileHeader.TheVariants as read

abbrev pub header_view : FileHeader → Header
header_view (read.Truth value) = Truth value
header_view (read.Systems systems) = Systems systems.items
header_view (read.Sets sets) = Sets sets
