-- The words that are listed.
use Rattle.std.specs.Prelude.{◌≡◌, ℕ, Bool, true, ◌&&◌, List, Option, None, Some}
use Rattle.digit_tuple.specs.Deterministic.{Automaton, accepts_of}
use Rattle.digit_tuple.specs.Paddings.{in_order}
use Rattle.digit_tuple.specs.declared.direction.Direction.{Direction}
use Rattle.numeration.specs.Words.{is_plain}

-- the most significant letter is not 0, where such words are left out
abbrev pub is_shortest : Option Direction → List ℕ → Bool
is_shortest None w = true
is_shortest (Some direction) w = is_plain (in_order direction w)

-- the word is accepted and not left out
abbrev pub is_listed : Automaton → Option Direction → List ℕ → Bool
is_listed d skip w = accepts_of d w && is_shortest skip w

-- the automaton accepts what is listed
abbrev pub IsListing : Automaton → Option Direction → Automaton → Type 0
IsListing d skip listing = (w : List ℕ) → accepts_of listing w ≡ is_listed d skip w
