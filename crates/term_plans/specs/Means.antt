-- What plans mean: of which numbers on tracks the relation that a plan makes holds.
use Rattle.std.specs.Prelude.{◌≡◌, ◌⊎◌, ℕ, ℤ, ◌+◌, map, ⊤}
use Rattle.formula_truth.specs.Truth.{Meanings, Compares, ComparesLetters, Joins}
use Rattle.term_plans.specs.Tracks.{Numbers, with_number}
use Rattle.term_plans.specs.Plans.{Plan, compared, added, number, called, lettered, renamed, constant, joined, paired, complement, projected}

abbrev pub Means : Meanings → Plan → Numbers → Type 0
Means m (compared y r s t) a = Compares r (a s) (a t)
Means m (added y s t u) a = a s + a t ≡ a u
Means m (number y t) a = ⊤
Means m (called n ts) a = m.holds_of n (map a ts)
Means m (lettered n ts r l) a = (b : ℤ) × m.has_letter n (map a ts) b × ComparesLetters r b l
Means m (renamed s t p) a = Means m p (with_number s (a t) a)
Means m (constant y c t) a = a t ≡ c
Means m (joined j p q) a = Joins j (Means m p a) (Means m q a)
Means m (paired n ts r w us) a = (b : ℤ) × (c : ℤ) × m.has_letter n (map a ts) b × m.has_letter w (map a us) c × ComparesLetters r b c
Means m (complement p) a = ¬ Means m p a
Means m (projected t p) a = (k : ℕ) × Means m p (with_number t k a)

-- of all numbers it is decided whether the relation holds of them
abbrev pub IsDecided : Meanings → Plan → Type 0
IsDecided m p = (a : Numbers) → Means m p a ⊎ ¬ Means m p a

-- of a plan and of all that it is made of
abbrev pub AreDecided : Meanings → Plan → Type 0
AreDecided m (compared y r s t) = IsDecided m (compared y r s t)
AreDecided m (added y s t u) = IsDecided m (added y s t u)
AreDecided m (number y t) = IsDecided m (number y t)
AreDecided m (called n ts) = IsDecided m (called n ts)
AreDecided m (lettered n ts r l) = IsDecided m (lettered n ts r l)
AreDecided m (renamed s t p) = IsDecided m (renamed s t p) × AreDecided m p
AreDecided m (constant y c t) = IsDecided m (constant y c t)
AreDecided m (joined j p q) = IsDecided m (joined j p q) × AreDecided m p × AreDecided m q
AreDecided m (paired n ts r w us) = IsDecided m (paired n ts r w us)
AreDecided m (complement p) = IsDecided m (complement p) × AreDecided m p
AreDecided m (projected t p) = IsDecided m (projected t p) × AreDecided m p
