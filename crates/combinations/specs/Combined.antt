-- The letter that several relations make together.
use Rattle.std.specs.Prelude.{◌≡◌, ◌⊎◌, ◌↔◌, ℕ, ◌<◌, ℤ, List, [], ◌∷◌, length, Option, Some}
use Rattle.num_system.specs.Sealed.{SystemValue}
use Rattle.num_system.specs.Tracks.{ShareDirection}
use Rattle.number_relations.specs.Relations.{RelationHolds}
use Rattle.word_output.specs.Words.{HasLetter, IsWordValue, WordValue}
use Rattle.combinations.specs.Parts.{PartValue}

-- the letter is the value of the first listed relation that holds of the numbers, and where none holds that of the rest, if there is one
abbrev pub IsCombined : Option ℤ → List PartValue → List ℕ → ℤ → Type 0
IsCombined rest [] ns letter = rest ≡ Some letter
IsCombined rest (part ∷ parts) ns letter = (RelationHolds part.relation ns × (letter ≡ part.value)) ⊎ ((¬ RelationHolds part.relation ns) × IsCombined rest parts ns letter)

-- the systems are those of the first relation; without one, they are some of one direction
abbrev pub AreSystemsFor : List PartValue → List SystemValue → Type 0
AreSystemsFor [] systems = (0 < length systems) × ShareDirection systems
AreSystemsFor (part ∷ parts) systems = systems ≡ part.relation.systems

-- the word over these systems that has at each place the combined letter, if there is one
pub record IsCombination (rest : Option ℤ) (parts : List PartValue) (systems : List SystemValue) (word : WordValue) : Type 0 where
  pub word_is : IsWordValue word
  pub systems_are : word.systems ≡ systems
  pub letters : (ns : List ℕ) (letter : ℤ) → length ns ≡ length systems → HasLetter word ns letter ↔ IsCombined rest parts ns letter
