-- Sets of states as bits, and where letters lead from them.
use Rattle.std.specs.Prelude.{◌≡◌, ℕ, Bool, List, Option, None, Some, MatchOption, ⊤, refl}
use Rattle.std.specs.Option.{option_map}
use Rattle.digit_tuple.specs.Automaton.{Branching, states_of}
use Rattle.determinise.specs.Bits.{bits_of, members_of}
use Rattle.determinise.specs.BitRows.{words_of}
use Rattle.determinise.specs.SubsetLaws.{after_is_state_set}
use Rattle.determinise.specs.Subsets.{IsStateSet, has_accepting, set_after}

-- a set of states as bits
abbrev pub state_bits : Branching → List ℕ → List ℕ
state_bits n set = bits_of (words_of (states_of n)) set

-- the states whose bits are set
abbrev pub states_in : Branching → List ℕ → List ℕ
states_in n key = members_of (states_of n) key

-- the set that the letter leads to from the set, unless it is empty
abbrev pub bits_after : Branching → List ℕ → ℕ → Option (List ℕ)
bits_after n key letter = option_map (state_bits n) (set_after n (states_in n key) letter)

-- whether a state of the set accepts
abbrev pub bits_accept : Branching → List ℕ → Bool
bits_accept n key = has_accepting n (states_in n key)

-- the bits of some states
pub record IsStateBits (n : Branching) (key : List ℕ) : Type 0 where
  pub set : List ℕ
  pub is_set : IsStateSet n set
  pub bits : key ≡ state_bits n set

-- the bits that a letter leads to
pub after_is_state_bits : (n : Branching) (key : List ℕ) (letter : ℕ) → MatchOption (bits_after n key letter) ⊤ (IsStateBits n)
after_is_state_bits n key letter = by (set_after n (states_in n key) letter) (after_is_state_set n (states_in n key) letter)
  where
    by : (o : Option (List ℕ)) → MatchOption o ⊤ (IsStateSet n) → MatchOption (option_map (state_bits n) o) ⊤ (IsStateBits n)
    by None none = tt
    by (Some set) is = record { set = set; is_set = is; bits = refl }
