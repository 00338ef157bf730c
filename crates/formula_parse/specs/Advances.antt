-- What the machine gives at a token, its limits looked at.
use Rattle.std.specs.Prelude.{◌≡◌, ℕ, ◌<◌, Option, Some, None, Result, Ok, Err, ⊤, IsSomeAnd}
use Rattle.formula_parse.specs.Tokens.{Token}
use Rattle.formula_parse.specs.Making.{Kinds}
use Rattle.formula_parse.specs.Machine.{Position, done, step, depth}
use Rattle.formula_parse.specs.Runs.{placed}
use Rattle.formula_parse.specs.Made.{trees}
use Rattle.formula_parse.specs.Limits.{IsInRange, IsAllowed, fault_byte}
use Rattle.formula_parse.specs.StateViews.{Machine, state_view}
use Rattle.formula_parse.specs.declared.flaw.Flaw.{Flaw}
use Rattle.formula_parse.specs.declared.state.State.{State}
use Rattle.formula_parse.specs.declared.state.Position.{Position as Rust'}
use Rattle.formula_parse.specs.declared.state.Position.TheVariants as positions
use Rattle.formula_parse.specs.declared.tree.Formula.{Formula}
use Rattle.formula_parse.specs.declared.fault.ParseFault.{ParseFault}
use Rattle.formula_parse.specs.declared.fault.ParseFault.TheVariants as faults
use Rattle.formula_parse.specs.declared.flaw.Flaw.TheVariants as flaw

abbrev pub Advances : Machine → Token → ℕ → Result State ParseFault → Type 0
Advances s t at (Ok n) = (step trees s t ≡ Some (state_view n)) × IsAllowed (placed s.position t (depth (state_view n)))
Advances s t at (Err (faults.Syntax b)) = (step trees s t ≡ None) × (b ≡ at)
Advances s t at (Err (faults.Number b)) = IsSomeAnd (step trees s t) (λ n. (IsInRange (placed s.position t (depth n)) → ⊥) × (fault_byte (placed s.position t (depth n)) at ≡ b))
Advances s t at (Err (faults.Depth b)) = IsSomeAnd (step trees s t) (λ n. 128 < depth n) × (b ≡ at)
Advances s t at (Err (faults.MixedChain b)) = ⊥
Advances s t at (Err (faults.NotLinear b)) = ⊥
Advances s t at (Err faults.Memory) = ⊤

-- a position after the end of a text
abbrev pub IsDone : {K : Kinds} → Position K → Type 0
IsDone (done f) = ⊤
IsDone _ = ⊥

-- a tree, where no flaw was met
abbrev pub Flawed : Formula → Option Flaw → Result Formula ParseFault → Type 0
Flawed f None r = r ≡ Ok f
Flawed f (Some (flaw.MixedChain b)) r = r ≡ Err (faults.MixedChain b)
Flawed f (Some (flaw.NotLinear b)) r = r ≡ Err (faults.NotLinear b)

abbrev pub FinishesAt : Rust' → Option Flaw → Result Formula ParseFault → Type 0
FinishesAt (positions.Done f) w r = Flawed f w r
FinishesAt _ w r = ⊤

-- the tree of a state after the end of a text, or its least flaw
abbrev pub Finishes : State → Result Formula ParseFault → Type 0
Finishes s r = FinishesAt s.position s.context.around.flaw r
