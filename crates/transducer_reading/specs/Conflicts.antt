-- Lines without conflicts. Nobody has to believe this: it serves the reader.
use Rattle.std.specs.Prelude.{◌≡◌, ℕ, List, IsTrue}
use Rattle.std.specs.List.{Contains}
use Rattle.transducer_reading.specs.declared.transducer.TransducerLine.{TransducerLine}
use Rattle.transducer_reading.specs.Transducers.{HaveOneResult}
use Rattle.transducer_reading.specs.Reading.{share_letter}

-- two lines of one state that share a letter have one result
abbrev pub IsWithoutConflict : List (ℕ × TransducerLine) → Type 0
IsWithoutConflict lines = (line other : ℕ × TransducerLine) → Contains lines line → Contains lines other → line.1.state ≡ other.1.state → IsTrue (share_letter line.1.letter other.1.letter) → HaveOneResult line.1 other.1
