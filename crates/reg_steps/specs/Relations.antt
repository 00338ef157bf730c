-- The relation of numbers that an expression over numeration systems denotes.
use Rattle.std.specs.Prelude.{◌≡◌, ◌↔◌, ℕ, ◌<◌, ℤ, List, length, slice_index_or, IsTrue}
use Rattle.digit_tuple.specs.Deterministic.{Automaton, accepts_of}
use Rattle.digit_tuple.specs.Letters.{IsWord}
use Rattle.digit_tuple.specs.Paddings.{in_order}
use Rattle.digit_tuple.specs.Tuples.{Codes}
use Rattle.digit_tuple.specs.declared.direction.Direction.{Direction}
use Rattle.minimise.specs.Canonical.{IsCanonical}
use Rattle.numeration.specs.Systems.{System}
use Rattle.numeration.specs.Representation.{Represents, sizes_of, letters_in}
use Rattle.numeration.specs.Relations.{IsLanguageOf}
use Rattle.product_op.specs.Validity.{language_at}
use Rattle.regex_build.specs.Expression.{Expression}
use Rattle.regex_build.specs.Matches.{Matches}

-- some word that represents the numbers matches the expression
pub record HasMatch (direction : Direction) (ss : List System) (sets : List (List ℤ)) (expression : Expression (List ℤ)) (ns : List ℕ) : Type 0 where
  pub word : List ℕ
  pub tuples : List (List ℤ)
  pub codes : Codes sets tuples word
  pub represents : Represents ss (in_order direction word) ns
  pub matches : Matches expression tuples

-- the canonical automaton that accepts the words which represent numbers of which some representation matches
pub record IsRelation (direction : Direction) (ss : List System) (sets : List (List ℤ)) (expression : Expression (List ℤ)) (automaton : Automaton) : Type 0 where
  pub sizes : automaton.sizes ≡ sizes_of ss
  pub canonical : IsCanonical automaton
  pub language : (word : List ℕ) → IsWord (letters_in ss) word → IsTrue (accepts_of automaton word) ↔ ((ns : List ℕ) × Represents ss (in_order direction word) ns × HasMatch direction ss sets expression ns)

-- the canonical automaton of a system's language
pub record IsSystemLanguage (direction : Direction) (s : System) (language : Automaton) : Type 0 where
  pub of_system : IsLanguageOf direction s language
  pub canonical : IsCanonical language

-- one for each track
pub record AreSystemLanguages (direction : Direction) (ss : List System) (languages : List Automaton) : Type 0 where
  pub count : length languages ≡ length ss
  pub each : (track : ℕ) (s : System) → track < length ss → IsSystemLanguage direction (slice_index_or ss track s) (language_at languages track)
