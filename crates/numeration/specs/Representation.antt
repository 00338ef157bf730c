-- Words of several tracks that represent tuples of numbers.
use Rattle.std.specs.Prelude.{◌≡◌, ℕ, ◌/◌, ◌%◌, List, [], ◌∷◌, map, length, ⊤, ◌↔◌}
use Rattle.digit_tuple.specs.Letters.{IsWord, product}
use Rattle.digit_tuple.specs.Paddings.{without_zeros}
use Rattle.numeration.specs.Systems.{System, AreSystems, IsRepresentation}

-- how many digits each track has
abbrev pub sizes_of : List System → List ℕ
sizes_of ss = map (λ s. s.digits) ss

-- how many letters the systems' tracks have
abbrev pub letters_in : List System → ℕ
letters_in ss = product (sizes_of ss)

-- the digits on the first track, before tracks of these systems
abbrev pub first_track : List System → List ℕ → List ℕ
first_track ss w = map (λ a. a / letters_in ss) w

-- the letters of the other tracks
abbrev pub other_tracks : List System → List ℕ → List ℕ
other_tracks ss w = map (λ a. a % letters_in ss) w

-- each track of the word, read from the most significant letter on, represents the number
abbrev pub Represents : List System → List ℕ → List ℕ → Type 0
Represents [] w [] = ⊤
Represents [] w (n ∷ ns) = ⊥
Represents (s ∷ ss) w [] = ⊥
Represents (s ∷ ss) w (n ∷ ns) = IsRepresentation s (first_track ss w) n × Represents ss (other_tracks ss w) ns

-- each tuple has a representation
abbrev pub TuplesHaveRepresentations : Type 0
TuplesHaveRepresentations = (ss : List System) (ns : List ℕ) → AreSystems ss → length ns ≡ length ss
    → (w : List ℕ) × IsWord (letters_in ss) w × Represents ss w ns

-- the representations of a tuple are those words that differ from one of them in leading zeros alone
abbrev pub RepresentationsArePaddings : Type 0
RepresentationsArePaddings = (ss : List System) (w v ns : List ℕ) → AreSystems ss → IsWord (letters_in ss) w → IsWord (letters_in ss) v
    → Represents ss w ns → Represents ss v ns ↔ (without_zeros v ≡ without_zeros w)
