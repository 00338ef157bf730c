use Rattle.std.proofs.Common.{◌≡◌, ◌+◌, drop}
use Rattle.script_cut.specs.Lengths.{text_count, text_open}
use Rattle.script_cut.proofs.scanning.text_of.Given as goal

-- the text of what is left, with the quote open or not, is the rest of that of the whole
abbrev pub invariant-loop-index : goal.invariant-loop-index
invariant-loop-index l =
    (l.index + text_count l.open (drop l.index l.bytes) ≡ text_count l.quoted l.bytes)
    × (text_open l.open (drop l.index l.bytes) ≡ text_open l.quoted l.bytes)
