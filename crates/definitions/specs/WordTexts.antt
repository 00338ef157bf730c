-- The texts of words: the automaton that gives each representation of a position its letter, if it has one.
use Rattle.std.specs.Prelude.{◌≡◌, ◌↔◌, ℕ, ◌<◌, ℤ, FitsSigned, List, length, Some}
use Rattle.std.specs.Int.{w32}
use Rattle.std.specs.List.{All}
use Rattle.digit_tuple.specs.Letters.{IsWord}
use Rattle.digit_tuple.specs.Paddings.{in_order}
use Rattle.digit_tuple.specs.declared.direction.Direction.{Direction}
use Rattle.digit_tuple.specs.declared.direction.Direction.TheVariants.{Msd}
use Rattle.base_k.specs.Positional.{base}
use Rattle.dfa_text.specs.RelationText.{word_text}
use Rattle.numeration.specs.Representation.{Represents, letters_in, sizes_of}
use Rattle.system_names.specs.Names.{system_name}
use Rattle.system_names.specs.declared.system_kind.SystemKind.TheVariants.{Base}
use Rattle.word_output.specs.LetterFunctions.{LetterFunctionValue, IsLetterFunction, letter_after, outputs_of}
use Rattle.definitions.specs.Tracks.{NamedSystem, OverSystems, systems_of, header_of}
use Rattle.system_files.specs.SystemFiles.{Custom}
use Rattle.definitions.specs.Named.{AreNamed}

-- the system of base k, the most significant digit first
abbrev pub msd_base : ℕ → NamedSystem
msd_base k = record { name = system_name Msd (Base k); system = base k }

-- The text of a word with these letters, over systems that are those that their names mean. It is the text of the one canonical automaton that
-- gives each representation of numbers their letter, if they have one, and no letter to any other word. Letters are numbers of 32 bits.
pub record IsWordText (custom : Custom) (direction : Direction) (named : List NamedSystem) (HasLetter : List ℕ → ℤ → Type 0) (text : List ℕ) : Type 0 where
  pub some : 0 < length named
  pub are : AreNamed custom direction named
  pub function : LetterFunctionValue
  pub canonical : IsLetterFunction function
  pub fits : All (λ letter. FitsSigned w32 letter) function.letters
  pub sizes : function.automaton.sizes ≡ sizes_of (systems_of named)
  pub letters : (w : List ℕ) → IsWord (letters_in (systems_of named)) w → (letter : ℤ) → (letter_after function w ≡ Some letter) ↔ ((ns : List ℕ) × Represents (systems_of named) (in_order direction w) ns × HasLetter ns letter)
  pub text_is : text ≡ word_text (header_of (OverSystems direction named)) function.automaton (outputs_of function)
