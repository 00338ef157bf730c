-- The meaning of an automaton file over sets: the words of tuples that it accepts.
use Rattle.std.specs.Prelude.{◌≡◌, ℕ, ◌<◌, ℤ, FitsSigned, List, length, Ok}
use Rattle.std.specs.Int.{w32}
use Rattle.std.specs.List.{All, AllZip}
use Rattle.digit_tuple.specs.Letters.{AreDigits}
use Rattle.digit_tuple.specs.Sets.{IsAscending, sizes_of, members_at}
use Rattle.dfa_reading.specs.Headers.{Sets}
use Rattle.dfa_reading.specs.Listed.{Listed, ListedAccepts}
use Rattle.dfa_reading.specs.Reading.{relation_of}

-- the tuple has the members at these digits, which are their places in the sets
pub record IsTupleAt (sets : List (List ℤ)) (tuple : List ℤ) (digits : List ℕ) : Type 0 where
  pub fit : AreDigits (sizes_of sets) digits
  pub tuple_is : tuple ≡ members_at sets digits

-- the bytes are a file over sets, and it lists an automaton that accepts the digits of the word
pub record FileAccepts (text : List ℕ) (word : List (List ℤ)) : Type 0 where
  pub sets : List (List ℤ)
  pub listed : Listed
  pub digits : List (List ℕ)
  pub read : relation_of text ≡ Ok listed
  pub header : listed.header ≡ Sets sets
  pub tuples : AllZip (IsTupleAt sets) word digits
  pub accepts : ListedAccepts (sizes_of sets) listed digits

-- the set of a track: it has a member, and its members are numbers of 32 bits in ascending order
pub record IsTrackSet (set : List ℤ) : Type 0 where
  pub some : 0 < length set
  pub ascending : IsAscending set
  pub fits : All (λ member. FitsSigned w32 member) set

-- the sets of a header's tracks, at least one
pub record AreTrackSets (sets : List (List ℤ)) : Type 0 where
  pub some : 0 < length sets
  pub each : All IsTrackSet sets
