-- What a plan is made of: itself, and the parts of the plans in it.
use Rattle.std.specs.Prelude.{◌≡◌, List, ◌⊎◌}
use Rattle.std.specs.List.{AllByRecursion}
use Rattle.term_plans.specs.Plans.{Plan, compared, added, number, called, lettered, renamed, constant, joined, paired, complement, projected}

-- the first plan is a part of the second
abbrev pub IsPart : Plan → Plan → Type 0
IsPart p (compared y r s t) = p ≡ compared y r s t
IsPart p (added y s t u) = p ≡ added y s t u
IsPart p (number y t) = p ≡ number y t
IsPart p (called n ts) = p ≡ called n ts
IsPart p (lettered n ts r l) = p ≡ lettered n ts r l
IsPart p (renamed s t q) = (p ≡ renamed s t q) ⊎ IsPart p q
IsPart p (constant y c t) = p ≡ constant y c t
IsPart p (joined j q r) = (p ≡ joined j q r) ⊎ (IsPart p q ⊎ IsPart p r)
IsPart p (paired n ts r w us) = p ≡ paired n ts r w us
IsPart p (complement q) = (p ≡ complement q) ⊎ IsPart p q
IsPart p (projected t q) = (p ≡ projected t q) ⊎ IsPart p q

abbrev pub AreParts : List Plan → Plan → Type 0
AreParts ps q = AllByRecursion (λ p. IsPart p q) ps
