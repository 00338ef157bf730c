-- The tracks of two automata seen as one list: tracks of one name are one track.
use Rattle.std.specs.Prelude.{◌≡◌, ℕ, max, List, map}
use Rattle.std.specs.List.{Contains}
use Rattle.digit_tuple.specs.Names.{places_of, joint_names}
use Rattle.digit_tuple.specs.Parts.{part}
use Rattle.minimise.specs.Tracked.{NamedAutomaton, size_of}

-- the size of the track of this name in the one or the other
abbrev pub joint_size : NamedAutomaton → NamedAutomaton → List ℕ → ℕ
joint_size a b name = max (size_of a name) (size_of b name)

abbrev pub joint_sizes : NamedAutomaton → NamedAutomaton → List ℕ
joint_sizes a b = map (joint_size a b) (joint_names a.names b.names)

-- tracks of one name have one size
abbrev pub AgreeOnShared : NamedAutomaton → NamedAutomaton → Type 0
AgreeOnShared a b = (name : List ℕ) → Contains a.names name → Contains b.names name → size_of a name ≡ size_of b name

-- the part of a word on the tracks of some of the names
abbrev pub part_on : List (List ℕ) → List ℕ → List (List ℕ) → List ℕ → List ℕ
part_on names sizes some w = part sizes (places_of names some) w
