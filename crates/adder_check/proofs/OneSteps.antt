-- Each part of admission has one answer.
use Rattle.std.proofs.Common.{◌≡◌, inl, inr, ℕ, Bool, true, false, List, [], ◌∷◌, sym, ap, ◌∙◌, subst}
use Rattle.digit_tuple.specs.Automaton.{Branching}
use Rattle.digit_tuple.specs.Deterministic.{Automaton}
use Rattle.digit_tuple.specs.StepResults.{Then}
use Rattle.digit_tuple.specs.declared.direction.Direction.{Direction}
use Rattle.digit_tuple.specs.declared.step_fault.StepFault.TheVariants.{Memory}
use Rattle.minimise.specs.Canonical.{IsCanonical}
use Rattle.minimise.specs.Tracked.{NamedAutomaton}
use Rattle.minimise.proofs.CanonicalLemmas.{canonical_forms}
use Rattle.product_op.specs.declared.op.Op.TheVariants.{And, AndNot}
use Rattle.product_op.proofs.WidthLaws.{IsEquivalence-product}
use Rattle.numeration.specs.Relations.{HoldsOf, IsLanguageOf, IsZero, IsEqual}
use Rattle.numeration.specs.Systems.{System, IsSystem, AreSystems}
use Rattle.num_system.specs.SuccessorSteps.{name_u, name_x, name_y, order_on}
use Rattle.automaton_steps.specs.JoinSteps.{join_step}
use Rattle.automaton_steps.specs.Laws.{HasOneOutcome}
use Rattle.automaton_steps.specs.Makings.{DoesStep}
use Rattle.automaton_steps.specs.OneAnswers.{HasOneAnswer}
use Rattle.automaton_steps.specs.OrderSteps.{order_step}
use Rattle.automaton_steps.specs.PadSteps.{pad_step}
use Rattle.automaton_steps.specs.ProjectSteps.{project_step}
use Rattle.automaton_steps.specs.ReadSteps.{read_step}
use Rattle.automaton_steps.proofs.OneAnswers.{read_one, reverse_one, pad_one, valid_one, join_one, project_one, order_one}
use Rattle.automaton_steps.proofs.OneResults.{one_join}
use Rattle.automaton_steps.proofs.StepAnswers.{step_one}
use Rattle.automaton_steps.proofs.ThenAnswers.{then_one, gives_one}
use Rattle.adder_check.specs.AdderRelation.{DoesAdder, adder_names, name_z}
use Rattle.adder_check.specs.BothForSome.{DoesBothForSome}
use Rattle.adder_check.specs.Faults.{DecidesSame}
use Rattle.endless.specs.LanguageLaws.{system_of}
use Rattle.adder_check.specs.LanguageSteps.{DoesFile, DoesReversal}
use Rattle.adder_check.specs.NextSums.{DoesNextSums, sum_on, name_v, name_w}
use Rattle.adder_check.specs.SuccessorPlan.{DoesSuccessor, chain_step, next_step}
use Rattle.adder_check.specs.ZeroSums.{DoesZeroLaw, on_y}
use Rattle.adder_check.proofs.OneAnswers.{decides_one}
use Rattle.adder_check.proofs.SameHolds.{same_holds}

reversal_one : (reversed : Bool) (read : Automaton) → HasOneAnswer Memory (DoesReversal reversed read)
reversal_one true read = reverse_one read
reversal_one false read = gives_one read

pub file_one : (listed : Branching) (reversed : Bool) → HasOneAnswer Memory (DoesFile listed reversed)
file_one listed reversed = then_one Memory (DoesStep (read_step listed)) (DoesReversal reversed) (read_one listed) (reversal_one reversed)

pub adder_one : (direction : Direction) (listed : Branching) (reversed : Bool) (languages : List Automaton) → HasOneAnswer Memory (DoesAdder direction listed reversed languages)
adder_one direction listed reversed languages =
    then_one Memory (DoesFile listed reversed) _ (file_one listed reversed)
    (λ read. then_one Memory (DoesStep (pad_step direction read)) _ (pad_one direction read) (λ closed. valid_one languages (record { names = adder_names; automaton = closed })))

next_one : (less : Automaton) (between : NamedAutomaton) → HasOneOutcome (next_step less between)
next_one less between =
    step_one (next_step less between) (IsEquivalence-product AndNot (order_on less name_x name_y) between [])
    (λ d e a b. ap (λ (n : NamedAutomaton). n.automaton) (one_join AndNot [] (order_on less name_x name_y) between (order_on d name_x name_y) (order_on e name_x name_y) a b))

pub successor_one : (direction : Direction) (d : Automaton) (s : System) → IsSystem s → IsLanguageOf direction s d → HasOneAnswer Memory (DoesSuccessor direction d)
successor_one direction d s system is =
    then_one Memory (DoesStep (order_step direction d)) _ (order_one direction s d system is)
    (λ less. then_one Memory (DoesStep (chain_step less)) _ (join_one And [] (order_on less name_x name_u) (order_on less name_u name_y))
    (λ chain. then_one Memory (DoesStep (project_step direction name_u chain)) _ (project_one direction name_u chain) (next_one less)))

both_one : (direction : Direction) (track : List ℕ) (a b : NamedAutomaton) → HasOneAnswer Memory (DoesBothForSome direction track a b)
both_one direction track a b = then_one Memory (DoesStep (join_step And [] a b)) _ (join_one And [] a b) (project_one direction track)

pub next_sums_one : (direction : Direction) (adder next : Automaton) → HasOneAnswer Memory (DoesNextSums direction adder next)
next_sums_one direction adder next =
    then_one Memory (DoesBothForSome direction name_v (order_on next name_y name_v) (sum_on adder name_x name_v name_z)) _ (both_one direction name_v (order_on next name_y name_v) (sum_on adder name_x name_v name_z))
    (λ with_next. then_one Memory (DoesBothForSome direction name_w (sum_on adder name_x name_y name_w) (order_on next name_w name_z)) _
    (both_one direction name_w (sum_on adder name_x name_y name_w) (order_on next name_w name_z)) (λ of_sums. decides_one with_next.automaton of_sums.automaton))

-- canonical automata that hold of one relation are one
one_automaton : (direction : Direction) (ss : List System) → AreSystems ss → (P : List ℕ → Type 0) (d e : Automaton) → IsCanonical d → IsCanonical e → HoldsOf direction ss P d → HoldsOf direction ss P e → d ≡ e
one_automaton direction ss systems P d e first second one other = canonical_forms d e first second (one.sizes ∙ sym other.sizes) ((same_holds direction ss systems P P d e one other).1 (λ ns long. ((λ h. h), (λ h. h))))

pub zero_law_one : (direction : Direction) (d : Automaton) (adder : NamedAutomaton) → IsSystem (system_of direction d) → HasOneAnswer Memory (DoesZeroLaw direction d adder)
zero_law_one direction d adder system old m n r s (inl ran_out) also = inr (inl ran_out.0)
zero_law_one direction d adder system old m n r s (inr does) (inl ran_out) = inr (inr ran_out.0)
zero_law_one direction d adder system old m n r s (inr (zero, equal, are, does)) (inr (nothing, same, also_are, also)) =
    then_one Memory (DoesBothForSome direction name_y adder (on_y zero)) (λ sums. DecidesSame sums.automaton equal) (both_one direction name_y adder (on_y zero)) (λ sums. decides_one sums.automaton equal) old m n r s does
    (subst (λ (z : Automaton). Then (DoesBothForSome direction name_y adder (on_y z)) (λ sums. DecidesSame sums.automaton equal) old s n) (sym zeros)
    (subst (λ (e : Automaton). Then (DoesBothForSome direction name_y adder (on_y nothing)) (λ sums. DecidesSame sums.automaton e) old s n) (sym equals) also))
  where
    zeros : zero ≡ nothing
    zeros = one_automaton direction (system_of direction d ∷ []) (system, tt) IsZero zero nothing are.zero_canonical also_are.zero_canonical are.zero_is also_are.zero_is

    equals : equal ≡ same
    equals = one_automaton direction (system_of direction d ∷ system_of direction d ∷ []) (system, (system, tt)) IsEqual equal same are.equal_canonical also_are.equal_canonical are.equal_is also_are.equal_is
