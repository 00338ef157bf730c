-- Places kept by their distances from bases, each of which counts from one index on.
use Rattle.std.specs.Prelude.{ℕ, suc, ◌+◌, nat_lt, if◌then◌else◌, List, [], ◌∷◌}
use Rattle.digit_tuple.specs.declared.starts.Base.{Base}

-- the base at an index: the last that counts by then, or this one where there is none
abbrev pub base_at : ℕ → List Base → ℕ → ℕ
base_at place [] index = place
base_at place (base ∷ bases) index = base_at (if nat_lt index base.first then place else base.place) bases index

-- the places from an index on, each so far after its base
abbrev pub places_from : ℕ → List ℕ → List Base → List ℕ
places_from index [] bases = []
places_from index (offset ∷ offsets) bases = (base_at 0 bases index + offset) ∷ places_from (suc index) offsets bases
