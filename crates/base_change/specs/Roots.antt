-- Bases that are powers of one integer.
use Rattle.std.specs.Prelude.{◌≡◌, ℕ, ◌^◌, ◌≤◌}
use Rattle.base_change.specs.declared.related.CommonRoot.{CommonRoot}

-- there is no integer of which both are powers
abbrev pub HaveNoRoot : ℕ → ℕ → Type 0
HaveNoRoot old new = (r b a : ℕ) → old ≡ r ^ b → new ≡ r ^ a → ⊥

-- the least integer of which both are powers, with the exponents
pub record IsLeastRoot (old new : ℕ) (common : CommonRoot) : Type 0 where
  pub old_is : old ≡ common.root ^ common.old_power
  pub new_is : new ≡ common.root ^ common.new_power
  pub least : (r b a : ℕ) → old ≡ r ^ b → new ≡ r ^ a → common.root ≤ r

-- two bases are related in one way
abbrev pub BasesAreRelatedInOneWay : Type 0
BasesAreRelatedInOneWay = (old new : ℕ) (common other : CommonRoot) → 2 ≤ old → 2 ≤ new → IsLeastRoot old new common → IsLeastRoot old new other → common ≡ other
