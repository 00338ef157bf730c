-- The names of systems that users define, each in either direction: `msd_X` and `lsd_X`, X a letter, then letters and digits, of at most 58
-- bytes, and not `fib`.
use Rattle.std.specs.Prelude.{◌≡◌, ◌≢◌, ℕ, ◌≤◌, Bool, true, false, ◌&&◌, ◌||◌, List, [], ◌∷◌, ◌++◌, length, codes}
use Rattle.std.specs.List.{list_all}
use Rattle.text_grammar.specs.Bytes.{is_alphanumeric, is_letter}
use Rattle.digit_tuple.specs.declared.direction.Direction.{Direction}
use Rattle.digit_tuple.specs.declared.direction.Direction.TheVariants.{Msd, Lsd}
use Rattle.system_names.specs.Names.{direction_part, IsBuiltInName}

-- a letter, and then letters and digits
abbrev pub is_word_of_letters : List ℕ → Bool
is_word_of_letters [] = false
is_word_of_letters (b ∷ bytes) = is_letter b && list_all is_alphanumeric bytes

-- what a user may call a system
pub record IsUserPart (part : List ℕ) : Type 0 where
  pub letters : is_word_of_letters part ≡ true
  pub short : length part ≤ 58
  pub other : part ≢ codes "fib"

-- the name that says a direction and what the system is called
abbrev pub user_name : Direction → List ℕ → List ℕ
user_name direction part = direction_part direction ++ part

-- the name is that of a user's system, which is called so, in this direction
abbrev pub IsUserName : Direction → List ℕ → List ℕ → Type 0
IsUserName direction part name = IsUserPart part × (name ≡ user_name direction part)

-- the name is that of some user's system
abbrev pub IsUsersName : List ℕ → Type 0
IsUsersName name = (direction : Direction) × (part : List ℕ) × IsUserName direction part name

-- the other direction
abbrev pub opposite : Direction → Direction
opposite Msd = Lsd
opposite Lsd = Msd

-- the name of the adder that is beside a language of this name
abbrev pub adder_name : List ℕ → List ℕ
adder_name name = name ++ codes "_addition"

-- a name says one direction and one system at most
abbrev pub UserNamesDetermineSystems : Type 0
UserNamesDetermineSystems = (direction other : Direction) (part another : List ℕ) (name : List ℕ) → IsUserName direction part name → IsUserName other another name → (direction ≡ other) × (part ≡ another)

-- and it is the name of none that is built in
abbrev pub UserNamesAreNotBuiltIn : Type 0
UserNamesAreNotBuiltIn = (name : List ℕ) → IsUsersName name → ¬ IsBuiltInName name
