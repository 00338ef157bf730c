-- The words of the command line, the program's name first, and the options that they give.
use Rattle.std.specs.Prelude.{◌≡◌, ◌⊎◌, ℕ, ◌+◌, ◌<◌, ◌≤◌, ◌^◌, Bool, if◌then◌else◌, List, [], ◌∷◌, ◌++◌, drop, Option, None, Some, ⊤, codes, decimal}
use Rattle.command_line.specs.declared.options.Options.{Options}

-- an option, with its value where it has one
pub data Given : Type 0 where
  states : List ℕ → Given
  stop : Given
  make : List ℕ → Given

-- the words of an option with a value: two words, or one with `=` (61) between the two
abbrev pub AreNameAndValue : List ℕ → List ℕ → List (List ℕ) → Type 0
AreNameAndValue name value words = (words ≡ name ∷ value ∷ []) ⊎ (words ≡ (name ++ 61 ∷ value) ∷ [])

abbrev pub AreWordsOf : Given → List (List ℕ) → Type 0
AreWordsOf (states value) words = AreNameAndValue (codes "--states") value words
AreWordsOf stop words = words ≡ codes "--stop" ∷ []
AreWordsOf (make value) words = AreNameAndValue (codes "--make") value words

-- the words of options, one after another
abbrev pub AreWordsOfAll : List Given → List (List ℕ) → Type 0
AreWordsOfAll [] words = words ≡ []
AreWordsOfAll (given ∷ more) words = (first rest : List (List ℕ)) × (words ≡ first ++ rest) × AreWordsOf given first × AreWordsOfAll more rest

-- a last word `--` may say that the options end there
abbrev pub IsEnd : List (List ℕ) → Type 0
IsEnd words = (words ≡ []) ⊎ (words ≡ codes "--" ∷ [])

-- the values that options name for `--states`, and for `--make`, and how often `--stop` is given
abbrev pub states_in : List Given → List (List ℕ)
states_in [] = []
states_in (states value ∷ more) = value ∷ states_in more
states_in (stop ∷ more) = states_in more
states_in (make value ∷ more) = states_in more

abbrev pub seeds_in : List Given → List (List ℕ)
seeds_in [] = []
seeds_in (states value ∷ more) = seeds_in more
seeds_in (stop ∷ more) = seeds_in more
seeds_in (make value ∷ more) = value ∷ seeds_in more

abbrev pub stops_in : List Given → ℕ
stops_in [] = 0
stops_in (states value ∷ more) = stops_in more
stops_in (stop ∷ more) = 1 + stops_in more
stops_in (make value ∷ more) = stops_in more

-- the list of a value, or of none
abbrev pub at_most_one : Option (List ℕ) → List (List ℕ)
at_most_one None = []
at_most_one (Some value) = value ∷ []

-- The words name each option once or not at all, in any order: these values, where they have them, and whether `--stop` is given.
pub record Names (words : List (List ℕ)) (limit : Option (List ℕ)) (is_stop : Bool) (seed : Option (List ℕ)) : Type 0 where
  pub given : List Given
  pub options : List (List ℕ)
  pub end : List (List ℕ)
  pub split : drop 1 words ≡ options ++ end
  pub are_words : AreWordsOfAll given options
  pub is_end : IsEnd end
  pub limits : states_in given ≡ at_most_one limit
  pub stops : stops_in given ≡ (if is_stop then 1 else 0)
  pub seeds : seeds_in given ≡ at_most_one seed

-- a number from 16 to 1,000,000, in decimal; 100,000 where there is no value
abbrev pub IsLimit : Option (List ℕ) → ℕ → Type 0
IsLimit None limit = limit ≡ 100000
IsLimit (Some value) limit = (value ≡ decimal limit) × (16 ≤ limit) × (limit ≤ 1000000)

-- a number below 2 ^ 64, in decimal; none where there is no value
abbrev pub IsSeed : Option (List ℕ) → Option ℕ → Type 0
IsSeed None None = ⊤
IsSeed None (Some seed) = ⊥
IsSeed (Some value) None = ⊥
IsSeed (Some value) (Some seed) = (value ≡ decimal seed) × (seed < 2 ^ 64)

abbrev pub GivesOptions : List (List ℕ) → Options → Type 0
GivesOptions words options = (limit seed : Option (List ℕ)) × Names words limit options.stop seed × IsLimit limit options.limit × IsSeed seed options.seed

-- the words are refused
abbrev pub GivesNone : List (List ℕ) → Type 0
GivesNone words = (options : Options) → GivesOptions words options → ⊥
