-- What the texts that the code keeps mean.
use Rattle.std.specs.Prelude.{List, map}
use Rattle.system_files.specs.SystemTexts.{Finding, FoundText, Absent, Text, TooLong}
use Rattle.system_files.specs.declared.texts.Finding.{Finding as FindingKept}
use Rattle.system_files.specs.declared.texts.Finding.TheVariants as kept
use Rattle.system_files.specs.declared.texts.FoundText.{FoundText as TextKept}

abbrev pub finding_view : FindingKept → Finding
finding_view kept.Absent = Absent
finding_view (kept.Text text) = Text text.items
finding_view kept.TooLong = TooLong

abbrev pub found_view : TextKept → FoundText
found_view found = record { name = found.name; finding = finding_view found.finding }

abbrev pub texts_in : List TextKept → List FoundText
texts_in found = map found_view found
