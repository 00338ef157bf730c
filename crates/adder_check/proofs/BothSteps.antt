-- The two steps of what two automata say together for some value of a track.
use Rattle.std.proofs.Common.{◌≡◌, List, ℕ, [], inl, inr, Result, Ok, Err, refl, subst}
use Rattle.digit_tuple.specs.Steps.{StepLog}
use Rattle.digit_tuple.specs.declared.direction.Direction.{Direction}
use Rattle.digit_tuple.specs.declared.step_fault.StepFault.{StepFault}
use Rattle.digit_tuple.specs.declared.step_fault.StepFault.TheVariants.{Memory}
use Rattle.minimise.specs.Tracked.{NamedAutomaton}
use Rattle.product_op.specs.declared.op.Op.TheVariants.{And}
use Rattle.automaton_steps.specs.JoinSteps.{join_step}
use Rattle.automaton_steps.specs.Makings.{DoesStep}
use Rattle.automaton_steps.specs.ProjectSteps.{project_step}
use Rattle.adder_check.specs.BothForSome.{DoesBothForSome}

module _ (direction : Direction) (track : List ℕ) (a b : NamedAutomaton) (old : StepLog) (r : Result NamedAutomaton StepFault) where
  -- memory runs out before the first of them
  pub both_out : r ≡ Err Memory → DoesBothForSome direction track a b old r old
  both_out is = inr (Memory, (tt, refl), is)

  module _ (c d : NamedAutomaton) (first : c ≡ a) (second : d ≡ b) (new : StepLog) where
    -- the first is refused
    pub both_refused : (fault : StepFault) → DoesStep (join_step And [] c d) old (Err fault) new → r ≡ Err fault → DoesBothForSome direction track a b old r new
    both_refused fault refused is =
        inr (
          fault,
          subst (λ (t : NamedAutomaton). DoesStep (join_step And [] t b) old (Err fault) new) first (subst (λ (t : NamedAutomaton). DoesStep (join_step And [] c t) old (Err fault) new) second refused),
          is,
        )

    -- both are taken, the second on a name that is the track
    pub both_done : (joined : NamedAutomaton) (mid : StepLog) (name : List ℕ) → name ≡ track → DoesStep (join_step And [] c d) old (Ok joined) mid → DoesStep (project_step direction name joined) mid r new
        → DoesBothForSome direction track a b old r new
    both_done joined mid name same done then =
        inl (
          joined,
          mid,
          subst (λ (t : NamedAutomaton). DoesStep (join_step And [] t b) old (Ok joined) mid) first (subst (λ (t : NamedAutomaton). DoesStep (join_step And [] c t) old (Ok joined) mid) second done),
          subst (λ (t : List ℕ). DoesStep (project_step direction t joined) mid r new) same then,
        )
