-- Letters of several tracks, coded as one number: the first track changes slowest.
use Rattle.std.specs.Prelude.{◌≡◌, ℕ, ◌+◌, ◌*◌, ◌<◌, ◌≤◌, ◌⊎◌, List, [], ◌∷◌, length}
use Rattle.std.specs.List.{AllByRecursion, AllZip}

-- the product of the numbers
abbrev pub product : List ℕ → ℕ
product [] = 1
product (n ∷ ns) = n * product ns

-- the letter that has these digits on tracks of these sizes
abbrev pub code_of : List ℕ → List ℕ → ℕ
code_of [] ds = 0
code_of (s ∷ ss) [] = 0
code_of (s ∷ ss) (d ∷ ds) = d * product ss + code_of ss ds

-- one digit for each track, below the track's size
abbrev pub AreDigits : List ℕ → List ℕ → Type 0
AreDigits sizes digits = AllZip (λ size digit. digit < size) sizes digits

-- the sizes of the tracks that an alphabet may have
pub record IsAlphabet (sizes : List ℕ) : Type 0 where
  pub tracks : length sizes ≤ 16
  pub letters : product sizes ≤ 65536

-- too many tracks or too many letters
abbrev pub IsTooLarge : List ℕ → Type 0
IsTooLarge sizes = (16 < length sizes) ⊎ (65536 < product sizes)

-- each letter of the word is below the number of letters
abbrev pub IsWord : ℕ → List ℕ → Type 0
IsWord letters word = AllByRecursion (λ letter. letter < letters) word

-- two lists of digits on the same tracks with the same letter are equal
abbrev pub LettersDetermineDigits : Type 0
LettersDetermineDigits = (sizes ds es : List ℕ) → AreDigits sizes ds → AreDigits sizes es → code_of sizes ds ≡ code_of sizes es → ds ≡ es

-- digits have a letter of their alphabet
abbrev pub DigitsHaveLetters : Type 0
DigitsHaveLetters = (sizes ds : List ℕ) → AreDigits sizes ds → code_of sizes ds < product sizes

-- each letter of an alphabet has digits
abbrev pub LettersHaveDigits : Type 0
LettersHaveDigits = (sizes : List ℕ) (letter : ℕ) → letter < product sizes → (ds : List ℕ) × AreDigits sizes ds × (code_of sizes ds ≡ letter)
