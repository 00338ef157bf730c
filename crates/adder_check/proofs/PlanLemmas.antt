-- What the steps of the successor make.
use Rattle.std.proofs.Common.{◌≡◌, ℕ, List, [], ◌∷◌, ◌++◌, length, Result, Ok, Err, IfOk, refl, sym, ap, ◌∙◌, subst, arith}
use Rattle.digit_tuple.specs.Deterministic.{Automaton}
use Rattle.digit_tuple.specs.Names.{names_without}
use Rattle.digit_tuple.specs.Steps.{StepLog}
use Rattle.digit_tuple.specs.declared.direction.Direction.{Direction}
use Rattle.digit_tuple.specs.declared.step_fault.StepFault.{StepFault}
use Rattle.minimise.specs.Canonical.{IsCanonical}
use Rattle.minimise.specs.Tracked.{NamedAutomaton}
use Rattle.automaton_steps.specs.Makings.{DoesStep}
use Rattle.automaton_steps.specs.ProjectSteps.{project_step}
use Rattle.number_order.specs.Orders.{pair_sizes}
use Rattle.num_system.specs.Operations.{IsProjection}
use Rattle.num_system.specs.SuccessorSteps.{IsChain, name_u, name_x, name_y}
use Rattle.num_system.proofs.StepLemmas.{staying_sizes_are}
use Rattle.num_system.proofs.SuccessorLemmas.{chain_sizes_are}
use Rattle.adder_check.specs.SuccessorPlan.{next_step}

-- an automaton on pairs has two tracks of one size
pub two_of : (language less : Automaton) → length language.sizes ≡ 1 → less.sizes ≡ pair_sizes language → (d : ℕ) × (less.sizes ≡ d ∷ d ∷ [])
two_of language less one is = let pair = by language.sizes one in (pair.0, is ∙ ap (λ (ns : List ℕ). ns ++ ns) pair.1)
  where
    by : (ns : List ℕ) → length ns ≡ 1 → (d : ℕ) × (ns ≡ d ∷ [])
    by [] none = absurd (omega (arith, none))
    by (d ∷ []) is = (d, refl)
    by (d ∷ e ∷ ns) more = absurd (omega (arith, more))

-- a projection step on the track of a name makes a projection
pub projected : (old new : StepLog) (direction : Direction) (track name : List ℕ) (a : NamedAutomaton) (r : Result NamedAutomaton StepFault) → track ≡ name → DoesStep (project_step direction track a) old r new
    → IfOk r (IsProjection direction a name)
projected old new direction track name a (Ok c) same done =
    let made = done.step.made_is in
    subst (λ (t : List ℕ). IsProjection direction a t c) same (record { names = made.names; sizes = made.sizes; canonical = made.canonical; language = made.language })
projected old new direction track name a (Err e) same done = tt

module _ (direction : Direction) (less : Automaton) (chain between : NamedAutomaton) (d : ℕ) (sizes : less.sizes ≡ d ∷ d ∷ []) (is : IsChain less chain) (made : IsProjection direction chain name_u between) where
  pub between_names : between.names ≡ name_x ∷ name_y ∷ []
  between_names = made.names ∙ ap (λ (ns : List (List ℕ)). names_without ns name_u) is.names

  pub between_sizes : between.automaton.sizes ≡ less.sizes
  between_sizes = made.sizes ∙ staying_sizes_are chain d is.names (is.sizes ∙ chain_sizes_are less d sizes) ∙ sym sizes

-- the last step of the successor makes a canonical automaton
pub next_canonical : (old new : StepLog) (less : Automaton) (between : NamedAutomaton) (r : Result Automaton StepFault) → DoesStep (next_step less between) old r new → IfOk r IsCanonical
next_canonical old new less between (Ok next) done = done.step.made_is.canonical
next_canonical old new less between (Err e) done = tt
