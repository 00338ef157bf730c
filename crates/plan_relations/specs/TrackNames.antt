-- The names of tracks: a variable's own track has the variable's name, and a fresh one its number in decimal.
use Rattle.std.specs.Prelude.{◌≡◌, ℕ, ◌^◌, ◌<◌, Bool, true, false, List, [], ◌∷◌, decimal}
use Rattle.std.specs.List.{AllByRecursion}
use Rattle.text_grammar.specs.Bytes.{is_letter}
use Rattle.term_plans.specs.Tracks.{Track, own, fresh, Numbers}
use Rattle.term_plans.specs.Plans.{Plan, compared, added, number, called, lettered, renamed, constant, joined, paired, complement, projected}

abbrev pub track_name : Track → List ℕ
track_name (own n) = n
track_name (fresh k) = decimal k

-- the numbers on tracks, by the numbers under names
abbrev pub numbers_by : (List ℕ → ℕ) → Numbers
numbers_by number_of = λ t. number_of (track_name t)

-- whether a name begins with a letter, as those of variables do
abbrev pub begins_with_letter : List ℕ → Bool
begins_with_letter [] = false
begins_with_letter (b ∷ bytes) = is_letter b

-- a track whose name no other such track has
abbrev pub IsNamed : Track → Type 0
IsNamed (own n) = begins_with_letter n ≡ true
IsNamed (fresh k) = k < 2 ^ 64

-- all tracks of a plan and of what it is made of
abbrev pub AreNamed : Plan → Type 0
AreNamed (compared y r s t) = IsNamed s × IsNamed t
AreNamed (added y s t u) = IsNamed s × IsNamed t × IsNamed u
AreNamed (number y t) = IsNamed t
AreNamed (called n ts) = AllByRecursion IsNamed ts
AreNamed (lettered n ts r l) = AllByRecursion IsNamed ts
AreNamed (renamed s t p) = IsNamed s × IsNamed t × AreNamed p
AreNamed (constant y c t) = IsNamed t
AreNamed (joined j p q) = AreNamed p × AreNamed q
AreNamed (paired n ts r w us) = AllByRecursion IsNamed ts × AllByRecursion IsNamed us
AreNamed (complement p) = AreNamed p
AreNamed (projected t p) = IsNamed t × AreNamed p
