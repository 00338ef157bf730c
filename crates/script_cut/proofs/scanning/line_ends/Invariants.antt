use Rattle.std.proofs.Common.{◌≡◌, ◌≤◌, take}
use Rattle.script_cut.specs.Texts.{line_ends as line_ends_of}
use Rattle.script_cut.proofs.scanning.line_ends.Given as goal

-- the line ends so far
abbrev pub invariant-loop-byte : goal.invariant-loop-byte
invariant-loop-byte l = (l.count ≡ line_ends_of (take l.byte-index l.bytes)) × (l.count ≤ l.byte-index)
