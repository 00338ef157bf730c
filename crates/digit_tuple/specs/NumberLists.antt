-- Lists that are one after another in one list of numbers, the first of them once for all that are the same, and a list of lists whose last
-- one grows.
use Rattle.std.specs.Prelude.{◌≡◌, ℕ, ◌^◌, ◌<◌, ◌≤◌, List, [], ◌∷◌, ◌++◌, length, take, drop, replicate, sum_by, slice_range, Option, None, Some, ⊤}

-- the first of the places, or the end where there is none
abbrev pub first_place : List ℕ → ℕ → ℕ
first_place [] end = end
first_place (start ∷ starts) end = start

-- the lists that begin at these places, each up to where the next begins, and the last up to the end
abbrev pub lists_at : List ℕ → List ℕ → List (List ℕ)
lists_at [] numbers = []
lists_at (start ∷ starts) numbers = slice_range numbers start (first_place starts (length numbers)) ∷ lists_at starts numbers

-- each of the places is at most the next, and the last at most the end
abbrev pub AreAscendingPlaces : List ℕ → ℕ → Type 0
AreAscendingPlaces [] end = ⊤
AreAscendingPlaces (start ∷ starts) end = (start ≤ first_place starts end) × AreAscendingPlaces starts end

-- lists that begin at these places fill the numbers, as many as the end says
pub record AreStarts (starts : List ℕ) (end : ℕ) : Type 0 where
  pub first : first_place starts end ≡ 0
  pub ascending : AreAscendingPlaces starts end

-- so many times the first numbers, up to the width, and then the lists that begin at these places after them
abbrev pub lists_of : ℕ → ℕ → List ℕ → List ℕ → List (List ℕ)
lists_of same width starts numbers = replicate same (take width numbers) ++ lists_at starts (drop width numbers)

-- lists that are kept so: the width is 0 where no list is counted, the last one begins at a place, and there are fewer
-- than 2 ^ 64 lists, with fewer numbers in all
pub record AreLists (same width : ℕ) (starts numbers : List ℕ) : Type 0 where
  pub within : width ≤ length numbers
  pub bare : same ≡ 0 → width ≡ 0
  pub places : AreStarts starts (length (drop width numbers))
  pub last : 0 < same → 0 < length starts
  pub few : length (lists_of same width starts numbers) < 2 ^ 64
  pub small : sum_by length (lists_of same width starts numbers) < 2 ^ 64

-- the lists with more at the end of the last one
abbrev pub extended : {A : Type 0} → List (List A) → List A → List (List A)
extended [] more = []
extended (xs ∷ []) more = (xs ++ more) ∷ []
extended (xs ∷ (ys ∷ rest)) more = xs ∷ extended (ys ∷ rest) more

-- the last of the elements, or this one where there is none
abbrev pub last_of : {A : Type 0} → List A → A → A
last_of [] d = d
last_of (x ∷ xs) d = last_of xs x

-- the last number, if there is one
abbrev pub last_number : List ℕ → Option ℕ
last_number [] = None
last_number (n ∷ ns) = Some (last_of ns n)
