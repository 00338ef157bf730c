-- Laws of places.
use Rattle.std.specs.Prelude.{◌≡◌, ◌≢◌, ℕ, ℤ, List, Result, Err}
use Rattle.place_text.specs.declared.fault.PlaceFault.{PlaceFault}
use Rattle.place_text.specs.declared.fault.PlaceFault.TheVariants.{Memory}
use Rattle.place_text.specs.Faults.{Parses}

-- reading a text has one answer, apart from out of memory
abbrev pub OneAnswer : Type 0
OneAnswer = (text : List ℕ) (result other : Result (List (List ℤ)) PlaceFault) → Parses text result → Parses text other → result ≢ Err Memory → other ≢ Err Memory → result ≡ other
