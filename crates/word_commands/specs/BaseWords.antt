-- Words over one system that is a base: under the name of the base; and the check that a word that a command names is one.
use Rattle.std.specs.Prelude.{◌≡◌, ℕ, List, [], ◌∷◌, Option, Result, Ok, Err, MatchOption, MatchResult, ⊤}
use Rattle.std.specs.declared.alloc.Global.{Global}
use Rattle.std.specs.declared.vec.Vec.{Vec}
use Rattle.digit_tuple.specs.declared.direction.Direction.{Direction}
use Rattle.digit_tuple.specs.declared.direction.Direction.TheVariants.{Msd}
use Rattle.base_k.specs.Positional.{base}
use Rattle.num_system.specs.Tracks.{systems_of}
use Rattle.system_names.specs.Names.{IsBase, IsBuiltIn, system_name}
use Rattle.system_names.specs.declared.system_kind.SystemKind.TheVariants.{Base}
use Rattle.formula_resolve.specs.Headers.{Headers, word_tracks}
use Rattle.word_output.specs.Words.{WordValue}
use Rattle.definitions.specs.Tracks.{NamedSystem}
use Rattle.word_commands.specs.declared.base_system.BaseSystem.{BaseSystem}
use Rattle.command_parts.specs.declared.shape_refusal.ShapeRefusal.TheVariants as shape_refusals
use Rattle.command_parts.specs.declared.refusal.Refusal.TheVariants as refusals
use Rattle.command_parts.specs.declared.fault.Fault.{Fault}
use Rattle.command_parts.specs.declared.fault.Fault.TheVariants as faults
use Rattle.command_parts.specs.Checks.{Check}
use Rattle.command_parts.specs.RefusingChecks.{Refusing}
use Rattle.command_parts.specs.WordPrinting.{IsWordTextOf, HasNoWordText}

-- the system of the word is this base
pub record IsOverBase (word : WordValue) (k : ℕ) : Type 0 where
  pub base_is : IsBase k
  pub system : systems_of word.systems ≡ base k ∷ []

-- the name of a base
abbrev pub base_name : ℕ → List ℕ
base_name k = system_name Msd (Base k)

-- the text of the word under the name of its base, or why there is none
abbrev pub PrintsOverBase : WordValue → ℕ → Result (Vec ℕ Global) Fault → Type 0
PrintsOverBase word k result = MatchResult result (λ text. IsWordTextOf (base_name k ∷ []) word text.items) (HasNoWordText (base_name k ∷ []) word)

-- the name of a base that is read in a direction, and the system under its name
abbrev pub name_of_base : BaseSystem → List ℕ
name_of_base s = system_name s.direction (Base s.base)

abbrev pub named_base : BaseSystem → NamedSystem
named_base s = record { name = name_of_base s; system = base s.base }

-- the name is that of this base, read in its direction
abbrev pub IsNameOfBase : BaseSystem → List ℕ → Type 0
IsNameOfBase s name = IsBuiltIn s.direction (Base s.base) name

-- the direction is the one that is asked for, if one is
abbrev pub IsAskedFor : Option Direction → Direction → Type 0
IsAskedFor asked direction = MatchOption asked ⊤ (λ only. direction ≡ only)

-- the word has one track, over this base, and is read in the direction that is asked for
pub record IsBaseOf (asked : Option Direction) (h : Headers) (word : List ℕ) (s : BaseSystem) : Type 0 where
  pub base_is : IsBase s.base
  pub tracks_are : word_tracks h word ≡ name_of_base s ∷ []
  pub direction_is : IsAskedFor asked s.direction

-- the base of a word; or the word's name and the systems of its tracks, where it has no such base
abbrev pub BaseAnswers : Option Direction → Headers → List ℕ → Result BaseSystem (List ℕ × List (List ℕ)) → Type 0
BaseAnswers asked h word (Ok s) = IsBaseOf asked h word s
BaseAnswers asked h word (Err header) = (header ≡ (word, word_tracks h word)) × ((s : BaseSystem) → ¬ IsBaseOf asked h word s)

abbrev pub fault_of_base : List ℕ × List (List ℕ) → Fault
fault_of_base header = faults.Refused (refusals.Shape (shape_refusals.BaseNeeded header.0 header.1))

abbrev pub over_base : Option Direction → Headers → List ℕ → Check BaseSystem
over_base asked h word = Refusing fault_of_base (BaseAnswers asked h word)
