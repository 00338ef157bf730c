-- The first table that is not over sets, and the first that is over others.
use Rattle.std.proofs.Common.{◌≡◌, ◌≢◌, ℕ, ◌+◌, ◌<◌, ◌≤◌, Bool, true, false, cond, ℤ, List, ◌∷◌, length, drop, get_or, None, Some, inl, inr, refl, sym, ap, ◌∙◌, subst}
use Rattle.std.specs.List.{AllByRecursion}
use Rattle.std.proofs.lemmas.List.{drop_all, drop_more}
use Rattle.dfa_loading.specs.declared.loaded.Loaded.{Loaded}
use Rattle.dfa_reading.specs.Headers.{Header, Truth, Systems, Sets}
use Rattle.language_steps.specs.Tables.{first_not_plain, is_over_sets, table_name, IsOverSets, AreOverSets, AreUnlike, IsFirstUnlike}

-- no table before this place is the first that is not over sets
abbrev pub IsLeft : List Loaded → ℕ → Type 0
IsLeft tables i = first_not_plain (drop i tables) ≡ first_not_plain tables

pub same_sets : (sets others : List (List ℤ)) → Sets sets ≡ Sets others → sets ≡ others
same_sets sets others same = cc
