-- What is known of the tracks of a head that was read.
use Rattle.std.specs.Prelude.{◌≡◌, ℕ, ◌<◌, true, List, length, ℤ, IsAscii, ◌^◌}
use Rattle.std.specs.List.{AllByRecursion}
use Rattle.digit_tuple.specs.Sets.{IsAscending}
use Rattle.text_grammar.specs.Numbers.{is_short}
use Rattle.text_grammar.specs.Systems.{is_system}
use Rattle.command_head.specs.Heads.{Alphabets, Sets, Systems}

-- numbers of 32 bits, signed, in ascending order, one at least, and fewer than a limit
pub record IsSmallSet (limit : ℕ) (set : List ℤ) : Type 0 where
  pub some : 0 < length set
  pub few : length set < limit
  pub ascending : IsAscending set
  pub short : AllByRecursion (λ n. is_short (2 ^ 31) n ≡ true) set

-- the name of a system, which is ASCII
pub record IsSystemName (name : List ℕ) : Type 0 where
  pub system : is_system name ≡ true
  pub ascii : IsAscii name

-- one track at least, each over such a set, or each over a system
abbrev pub AreFormed : ℕ → Alphabets → Type 0
AreFormed limit (Sets sets) = (0 < length sets) × AllByRecursion (IsSmallSet limit) sets
AreFormed limit (Systems names) = (0 < length names) × AllByRecursion IsSystemName names
