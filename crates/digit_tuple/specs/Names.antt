-- Names of tracks, the places of some of them, and names in byte order.
use Rattle.std.specs.Prelude.{◌≡◌, ◌≢◌, ℕ, suc, ◌⊎◌, List, [], ◌∷◌, map, filter, not, if◌then◌else◌}
use Rattle.std.specs.List.{All, AllPairs, Contains}
use Rattle.std.specs.Str.{bytes_eq}
use Rattle.std.specs.Ordering.{nat_cmp}
use Rattle.std.specs.Cmp.Lexicographic.{slice_cmp}
use Rattle.std.specs.declared.cmp.Ordering.{Ordering}
use Rattle.std.specs.declared.cmp.Ordering.TheVariants.{Less, Equal, Greater}

-- no two names are the same
abbrev pub AreDistinct : List (List ℕ) → Type 0
AreDistinct names = AllPairs (λ n m. n ≢ m) names

-- the place of the first track of this name: how many tracks come before it
abbrev pub place_of : List (List ℕ) → List ℕ → ℕ
place_of [] name = 0
place_of (n ∷ names) name = if bytes_eq n name then 0 else suc (place_of names name)

-- the place of each of the names
abbrev pub places_of : List (List ℕ) → List (List ℕ) → List ℕ
places_of names some = map (place_of names) some

-- the names but this one, in their order
abbrev pub names_without : List (List ℕ) → List ℕ → List (List ℕ)
names_without names name = filter (λ n. not (bytes_eq n name)) names

-- the one name is before the other, by the first byte that differs
abbrev pub IsBytesBefore : List ℕ → List ℕ → Type 0
IsBytesBefore m n = slice_cmp nat_cmp m n ≡ Less

-- the names from n on with one more, by where n is to it
abbrev pub placed : Ordering → List ℕ → List (List ℕ) → List ℕ → List (List ℕ) → List (List ℕ)
placed Less n names name rest = n ∷ rest
placed Equal n names name rest = n ∷ names
placed Greater n names name rest = name ∷ n ∷ names

-- names in byte order, with one more; one that is there stays there once
abbrev pub with_name : List (List ℕ) → List ℕ → List (List ℕ)
with_name [] name = name ∷ []
with_name (n ∷ names) name = placed (slice_cmp nat_cmp n name) n names name (with_name names name)

-- names in byte order, with more of them
abbrev pub with_names : List (List ℕ) → List (List ℕ) → List (List ℕ)
with_names names [] = names
with_names names (n ∷ more) = with_names (with_name names n) more

-- the names of both lists in byte order, each once
abbrev pub joint_names : List (List ℕ) → List (List ℕ) → List (List ℕ)
joint_names first second = with_names (with_names [] first) second

-- the names are those of both lists and no others, in byte order, each once
pub record AreJoint (first second names : List (List ℕ)) : Type 0 where
  pub ordered : AllPairs IsBytesBefore names
  pub all_first : All (Contains names) first
  pub all_second : All (Contains names) second
  pub no_others : All (λ name. Contains first name ⊎ Contains second name) names
