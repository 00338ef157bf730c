use Rattle.std.proofs.Common.{◌≡◌, ◌+◌, drop}
use Rattle.script_cut.specs.Lengths.{gap_count, gap_open}
use Rattle.script_cut.proofs.scanning.gaps_of.Given as goal

-- the gaps of what is left, with the comment open or not, are the rest of those of the whole
abbrev pub invariant-loop-index : goal.invariant-loop-index
invariant-loop-index l =
    (l.index + gap_count l.open (drop l.index l.bytes) ≡ gap_count l.commented l.bytes)
    × (gap_open l.open (drop l.index l.bytes) ≡ gap_open l.commented l.bytes)
