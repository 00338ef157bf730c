-- Classes that are pending.
use Rattle.std.specs.Prelude.{◌≡◌, ◌≢◌, ℕ, Bool, true, false, List, ◌↔◌, slice_index_or}
use Rattle.std.specs.List.{AllPairs, Contains}

-- no class is twice in the list, and a flag is set if and only if its class is there
pub record AreMarked (classes : List ℕ) (flags : List Bool) : Type 0 where
  pub apart : AllPairs (λ c k. c ≢ k) classes
  pub marked : (class : ℕ) → slice_index_or flags class false ≡ true ↔ Contains classes class
