-- The lines of listed words.
use Rattle.std.specs.Prelude.{◌≡◌, ℕ, ◌<◌, ◌≤◌, ℤ, Bool, List, length, Option, IsTrue, ⊤}
use Rattle.digit_tuple.specs.Letters.{product, IsWord}
use Rattle.digit_tuple.specs.Sets.{sizes_of}
use Rattle.digit_tuple.specs.Tuples.{Codes}
use Rattle.digit_tuple.specs.Deterministic.{Automaton, IsTable, letters_of}
use Rattle.digit_tuple.specs.declared.direction.Direction.{Direction}
use Rattle.word_walk.specs.Following.{AreNext}
use Rattle.word_walk.specs.Listed.{is_listed}
use Rattle.listings.specs.declared.line_fault.LineFault.{LineFault}
use Rattle.listings.specs.declared.line_fault.LineFault.TheVariants.{Long, Memory}
use Rattle.listings.specs.declared.listed_lines.Bounds.{Bounds}
use Rattle.listings.specs.WordLines.{tuples_in, word_lines}

-- these are the lines of the first so many words of a list after a place, or of all where there are fewer
pub record AreLines (lists : List ℕ → Bool) (sets : List (List ℤ)) (place : Option (List ℕ)) (count : ℕ) (text : List ℕ) : Type 0 where
  pub words : List (List ℕ)
  pub next : AreNext lists place count words
  pub text_is : text ≡ word_lines sets words

-- the lines of the first words, no more than so many, have more bytes than that
pub record PassBound (lists : List ℕ → Bool) (sets : List (List ℤ)) (place : Option (List ℕ)) (bounds : Bounds) : Type 0 where
  pub count : ℕ
  pub within : count ≤ bounds.words
  pub text : List ℕ
  pub lines : AreLines lists sets place count text
  pub long : bounds.bytes < length text

-- these are the lines, and no more bytes than that
pub record AreLinesWithin (lists : List ℕ → Bool) (sets : List (List ℤ)) (place : Option (List ℕ)) (bounds : Bounds) (text : List ℕ) : Type 0 where
  pub lines : AreLines lists sets place bounds.words text
  pub few : length text ≤ bounds.bytes

-- the fault comes only where they have more
abbrev pub Fails : (List ℕ → Bool) → List (List ℤ) → Option (List ℕ) → Bounds → LineFault → Type 0
Fails lists sets place bounds Long = PassBound lists sets place bounds
Fails lists sets place bounds Memory = ⊤

-- lines within the bounds have no more bytes than that, and are the only ones
abbrev pub ListingsAreOne : Type 0
ListingsAreOne = (lists : List ℕ → Bool) (sets : List (List ℤ)) (place : Option (List ℕ)) (bounds : Bounds) (text : List ℕ) → AreLinesWithin lists sets place bounds text
    → (¬ PassBound lists sets place bounds) × ((other : List ℕ) → AreLinesWithin lists sets place bounds other → text ≡ other)

-- lists of the same words have the same lines
abbrev pub SameListsHaveSameLines : Type 0
SameListsHaveSameLines = (lists others : List ℕ → Bool) (sets : List (List ℤ)) (place : Option (List ℕ)) (bounds : Bounds) → ((w : List ℕ) → lists w ≡ others w)
    → ((text : List ℕ) → AreLinesWithin lists sets place bounds text → AreLinesWithin others sets place bounds text) × (PassBound lists sets place bounds → PassBound others sets place bounds)

-- the words of the list are over the letters of tracks of these sizes
abbrev pub AreOver : (List ℕ → Bool) → List ℕ → Type 0
AreOver lists sizes = (w : List ℕ) → IsTrue (lists w) → IsWord (product sizes) w

-- the words of a listing are over the automaton's letters
abbrev pub ListingsAreOver : Type 0
ListingsAreOver = (d : Automaton) (skip : Option Direction) → IsTable (letters_of d) d.states → AreOver (is_listed d skip) d.sizes

-- a word over tracks is the word of its tuples
abbrev pub WordsHaveTuples : Type 0
WordsHaveTuples = (sets : List (List ℤ)) (w : List ℕ) → IsWord (product (sizes_of sets)) w → Codes sets (tuples_in sets w) w
