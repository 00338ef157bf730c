-- The steps of a table have one answer.
use Rattle.std.proofs.Common.{◌≡◌, inl, inr, ℕ, List, [], Result, sym, ◌∙◌, IsTrue}
use Rattle.digit_tuple.specs.Automaton.{Branching}
use Rattle.digit_tuple.specs.Steps.{StepLog}
use Rattle.digit_tuple.specs.declared.step_fault.StepFault.{StepFault}
use Rattle.digit_tuple.specs.declared.step_fault.StepFault.TheVariants.{Memory}
use Rattle.digit_tuple.proofs.BranchTables.{same_branching}
use Rattle.digit_tuple.proofs.LetterLemmas.{not_too_large}
use Rattle.automaton_steps.specs.Makings.{Gives}
use Rattle.automaton_steps.specs.OneAnswers.{HasOneAnswer}
use Rattle.automaton_steps.proofs.ThenAnswers.{gives_one, some_one}
use Rattle.dfa_reading.specs.Headers.{Header, Truth, Systems, Sets}
use Rattle.dfa_reading.specs.Listed.{Listed}
use Rattle.num_system.specs.Sealed.{SystemValue}
use Rattle.num_system.specs.Tracks.{systems_of}
use Rattle.numeration.specs.Representation.{sizes_of}
use Rattle.number_relations.specs.Comparisons.{IsTruth}
use Rattle.number_relations.specs.Readings.{DoesReading}
use Rattle.number_relations.proofs.RelationLemmas.{one_relation}
use Rattle.number_relations.proofs.StepOutcomes.{reading_one}
use Rattle.definitions.specs.TableLaws.{TablesHaveOneAnswer}
use Rattle.definitions.specs.TableSteps.{DoesTableOf, IsTableOver}

-- a table over systems has one branching automaton
pub one_branching : (systems : List SystemValue) (listed : Listed) (n m : Branching) → IsTableOver systems listed n → IsTableOver systems listed m → n ≡ m
one_branching systems listed n m one other =
    let first = one.is_branching in
    let second = other.is_branching in
    same_branching n m (first.sizes_are ∙ sym second.sizes_are) (first.states ∙ sym second.states)
    (λ q. (λ is. (second.accepting q).1 ((first.accepting q).0 is), λ is. (first.accepting q).1 ((second.accepting q).0 is)))
    (λ p letter q. (λ there. (second.leads p letter q).1 ((first.leads p letter q).0 there), λ there. (first.leads p letter q).1 ((second.leads p letter q).0 there)))
    one.table other.table

-- over systems there are too many letters for the first step, or there is one branching automaton
over_systems : (names : List (List ℕ)) (systems : List SystemValue) (listed : Listed) → HasOneAnswer Memory (DoesTableOf (Systems names) systems listed)
over_systems names systems listed old new next result other (inl a) (inl b) = inl (a.refused ∙ sym b.refused, a.same ∙ sym b.same)
over_systems names systems listed old new next result other (inl a) (inr (inl out)) = inr (inr out)
over_systems names systems listed old new next result other (inl a) (inr (inr (n, over, reads))) = absurd (not_too_large (sizes_of (systems_of systems)) over.alphabet a.large)
over_systems names systems listed old new next result other (inr (inl out)) b = inr (inl out)
over_systems names systems listed old new next result other (inr (inr (n, over, reads))) (inl b) = absurd (not_too_large (sizes_of (systems_of systems)) over.alphabet b.large)
over_systems names systems listed old new next result other (inr a) (inr b) =
    some_one (IsTableOver systems listed) (DoesReading systems) (one_branching systems listed) (reading_one systems) old new next result other a b

one_by_header : (header : Header) (systems : List SystemValue) (listed : Listed) → HasOneAnswer Memory (DoesTableOf header systems listed)
one_by_header (Truth value) systems listed = some_one (IsTruth value) Gives (one_relation [] [] (λ at. IsTrue value)) gives_one
one_by_header (Systems names) systems listed = over_systems names systems listed
one_by_header (Sets sets) systems listed = λ old new next result other a b. absurd a

pub one_table : TablesHaveOneAnswer
one_table systems listed = one_by_header listed.header systems listed
