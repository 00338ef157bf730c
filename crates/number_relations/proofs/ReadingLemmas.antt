-- A relation that was read holds of the numbers of which some representation is accepted by the listed automaton.
use Rattle.std.proofs.Common.{◌≡◌, ◌↔◌, ℕ, ◌<◌, ◌^◌, List, length, Result, Ok, refl, sym, ap, ◌∙◌, subst, arith}
use Rattle.std.specs.List.{AllByRecursion}
use Rattle.std.proofs.lemmas.List.{length-map}
use Rattle.digit_tuple.specs.Automaton.{Branching, letters_of}
use Rattle.digit_tuple.specs.Deterministic.{Automaton, accepts_of}
use Rattle.digit_tuple.specs.Deterministic as deterministic
use Rattle.digit_tuple.specs.Letters.{IsAlphabet, IsWord, product}
use Rattle.digit_tuple.specs.Names.{AreDistinct}
use Rattle.digit_tuple.specs.Paddings.{in_order, without_zeros}
use Rattle.digit_tuple.specs.declared.direction.Direction.{Direction}
use Rattle.digit_tuple.specs.StepResults.{Then}
use Rattle.digit_tuple.specs.Steps.{StepLog}
use Rattle.digit_tuple.specs.declared.step_fault.StepFault.{StepFault}
use Rattle.digit_tuple.proofs.PaddingLemmas.{IsWord-in_order}
use Rattle.digit_tuple.proofs.TruthLemmas.{same_tests}
use Rattle.minimise.specs.Tracked.{NamedAutomaton}
use Rattle.pad_rename.specs.Padding.{IsPadded}
use Rattle.numeration.specs.Systems.{System}
use Rattle.numeration.specs.Relations.{HoldsOf}
use Rattle.numeration.specs.Representation.{letters_in, sizes_of}
use Rattle.numeration.proofs.RepresentLemmas.{representations}
use Rattle.num_system.specs.Sealed.{SystemValue, system_of, IsSealed}
use Rattle.num_system.specs.Representations.{HasRepresentation, IgnoresZeros}
use Rattle.num_system.proofs.ValidityLinks.{valid_part_represents}
use Rattle.automaton_steps.specs.Makings.{DoesStep}
use Rattle.automaton_steps.specs.Numbered.{numbered, track_numbers}
use Rattle.automaton_steps.specs.PadSteps.{IsClosure, pad_step}
use Rattle.automaton_steps.specs.ReadSteps.{IsRead, read_step}
use Rattle.automaton_steps.specs.ValiditySteps.{valid_step}
use Rattle.automaton_steps.proofs.AnswerCases.{both_done}
use Rattle.automaton_steps.proofs.DirectionLemmas.{same_strip, same_without_zeros}
use Rattle.automaton_steps.proofs.TrackNumbers.{length-track_numbers, numbers_distinct}
use Rattle.num_system.specs.Tracks.{ShareDirection, systems_of, direction_of, languages_of}
use Rattle.number_relations.specs.Relations.{RelationValue, IsRelation, RelationHolds, relation_over}
use Rattle.number_relations.specs.Readings.{DoesReading, IsListedOf, IsValidReading, reading_valid_step}
use Rattle.number_relations.specs.StepLaws.{ReadingsHold, ReadingsAreRelations}
use Rattle.num_system.proofs.HoldLemmas.{closed_from, holds_representation, representation_holds}
use Rattle.num_system.proofs.SealedLemmas.{are_systems, languages_are}
use Rattle.number_relations.proofs.StepsDone.{step_done}

module _ (systems : List SystemValue) (listed : Branching) (read closed : Automaton) (r : RelationValue) (sealed : AllByRecursion IsSealed systems) (one : ShareDirection systems)
    (sizes : listed.sizes ≡ sizes_of (systems_of systems)) (alphabet : IsAlphabet listed.sizes) (read_is : IsRead listed read) (closure : IsClosure (direction_of systems) read closed)
    (valid : IsValidReading systems closed r) where
  abbrev direction : Direction
  direction = direction_of systems

  abbrev ss : List System
  ss = systems_of systems

  read_sizes : read.sizes ≡ sizes_of ss
  read_sizes = read_is.sizes ∙ sizes

  closed_sizes : closed.sizes ≡ sizes_of ss
  closed_sizes = closure.sizes ∙ read_sizes

  from_closed : (w : List ℕ) → IsWord (deterministic.letters_of closed) w → IsWord (letters_in ss) w
  from_closed w over = subst (λ (s : List ℕ). IsWord (product s) w) closed_sizes over

  to_read : (w : List ℕ) → IsWord (letters_in ss) w → IsWord (deterministic.letters_of read) w
  to_read w over = subst (λ (s : List ℕ). IsWord (product s) w) (sym read_sizes) over

  from_read : (w : List ℕ) → IsWord (deterministic.letters_of read) w → IsWord (letters_in ss) w
  from_read w over = subst (λ (s : List ℕ). IsWord (product s) w) read_sizes over

  to_listed : (w : List ℕ) → IsWord (letters_in ss) w → IsWord (letters_of listed) w
  to_listed w over = subst (λ (s : List ℕ). IsWord (product s) w) (sym sizes) over

  -- leading zeros change nothing for the closure
  moved : (v w : List ℕ) → without_zeros (in_order direction v) ≡ without_zeros (in_order direction w) → IsPadded direction read v → IsPadded direction read w
  moved v w same (u, over, strips, accepted) = (u, over, strips ∙ same_strip direction w v same, accepted)

  ignores : IgnoresZeros direction closed
  ignores v w over_v over_w same =
      let first = closure.language v (to_read v (from_closed v over_v)) in
      let second = closure.language w (to_read w (from_closed w over_w)) in
      same_tests (accepts_of closed v) (accepts_of closed w) (λ is. second.1 (moved v w same (first.0 is)), λ is. first.1 (moved w v (sym same) (second.0 is)))

  says : HoldsOf direction ss (HasRepresentation direction ss closed) r.automaton
  says =
      valid_part_represents direction ss (languages_of systems) (languages_are direction systems sealed one) (numbered closed) r.automaton valid.part.sizes valid.part.language
      (are_systems systems sealed) closed_sizes ignores

  says_own : HoldsOf (direction_of r.systems) (systems_of r.systems) (HasRepresentation direction ss closed) r.automaton
  says_own = subst (λ (own : List SystemValue). HoldsOf (direction_of own) (systems_of own) (HasRepresentation direction ss closed) r.automaton) (sym valid.systems_are) says

  tracks : length closed.sizes ≡ length systems
  tracks = ap length closed_sizes ∙ length-map (systems_of systems) (λ (s : System). s.digits) ∙ length-map systems system_of

  few : length closed.sizes < 2 ^ 32
  few = omega (arith, tracks, length-map (systems_of systems) (λ (s : System). s.digits), length-map systems system_of, ap length sizes, alphabet.tracks)

  named : r.names ≡ track_numbers (length closed.sizes)
  named = valid.part.names

  own_count : length r.systems ≡ length r.names
  own_count = ap length valid.systems_are ∙ sym tracks ∙ sym (length-track_numbers (length closed.sizes)) ∙ sym (ap length named)

  pub reading_is : IsRelation r
  reading_is = record {
    tracked = record {
      count = ap length named ∙ length-track_numbers (length closed.sizes) ∙ sym (ap length valid.part.sizes);
      distinct = subst AreDistinct (sym named) (numbers_distinct (length closed.sizes) few);
      canonical = valid.part.canonical;
    };
    count = own_count;
    sealed = subst (AllByRecursion IsSealed) (sym valid.systems_are) sealed;
    shared_direction = subst ShareDirection (sym valid.systems_are) one;
    closed = closed_from (direction_of r.systems) (systems_of r.systems) (HasRepresentation direction ss closed) r.automaton says_own;
  }

  -- a representation whose padding is accepted, and one that is accepted itself
  listed_from : (ns : List ℕ) → HasRepresentation direction ss closed ns → IsListedOf direction ss listed ns
  listed_from ns (v, over, represented, accepted) =
      let padded = (closure.language v (to_read v over)).0 accepted in
      let there : IsWord (letters_in ss) padded.0 = from_read padded.0 padded.1 in (
        padded.0,
        there,
        (representations ss (in_order direction v) (in_order direction padded.0) ns (are_systems systems sealed) (IsWord-in_order direction (letters_in ss) v over) (IsWord-in_order direction (letters_in ss) padded.0 there) represented).1
            (same_without_zeros direction v padded.0 padded.2),
        (read_is.language padded.0 (to_listed padded.0 there)).0 padded.3,
      )

  listed_to : (ns : List ℕ) → IsListedOf direction ss listed ns → HasRepresentation direction ss closed ns
  listed_to ns (w, over, represented, accepted) =
      (w, over, represented, (closure.language w (to_read w over)).1 (w, to_read w over, refl, (read_is.language w (to_listed w over)).1 accepted))

  pub reading_holds : (ns : List ℕ) → length ns ≡ length systems → RelationHolds r ns ↔ IsListedOf direction ss listed ns
  reading_holds ns count = (
    λ holds. listed_from ns (representation_holds (direction_of r.systems) (systems_of r.systems) (HasRepresentation direction ss closed) r.automaton says_own ns holds),
    λ is. holds_representation (direction_of r.systems) (systems_of r.systems) (HasRepresentation direction ss closed) r.automaton says_own (are_systems r.systems (subst (AllByRecursion IsSealed) (sym valid.systems_are) sealed)) ns
        (count ∙ sym (length-map r.systems system_of ∙ ap length valid.systems_are)) (listed_to ns is),
  )

-- a valid part of named tracks is one of a relation over these systems
pub valid_read : (systems : List SystemValue) (closed : Automaton) (part : NamedAutomaton) (old new : StepLog) → DoesStep (valid_step (languages_of systems) (numbered closed)) old (Ok part) new
    → DoesStep (reading_valid_step systems closed) old (Ok (relation_over part systems)) new
valid_read systems closed part =
    step_done (valid_step (languages_of systems) (numbered closed)) (reading_valid_step systems closed) part (relation_over part systems) refl refl (λ is. record { systems_are = refl; part = is })

-- the relation that the three steps made
module _ (systems : List SystemValue) (listed : Branching) (old new : StepLog) (r : RelationValue) (does : DoesReading systems listed old (Ok r) new) where
  abbrev Valid : Automaton → StepLog → Result RelationValue StepFault → StepLog → Type 0
  Valid closed = DoesStep (reading_valid_step systems closed)

  reading_made : (read : Automaton) × (closed : Automaton) × IsAlphabet listed.sizes × IsRead listed read × IsClosure (direction_of systems) read closed × IsValidReading systems closed r
  reading_made =
      let first = both_done (DoesStep (read_step listed)) (λ read. Then (DoesStep (pad_step (direction_of systems) read)) Valid) old new r does in
      let second = both_done (DoesStep (pad_step (direction_of systems) first.0)) Valid first.1 new r first.3 in
      (first.0, second.0, first.2.step.line_is.alphabet, first.2.step.made_is, second.2.step.made_is, second.3.step.made_is)

pub readings : ReadingsHold
readings systems listed old new r ns sealed one sizes does count =
    let made = reading_made systems listed old new r does in
    reading_holds systems listed made.0 made.1 r sealed one sizes made.2 made.3 made.4 made.5 ns count

pub readings_are : ReadingsAreRelations
readings_are systems listed old new r sealed one sizes does =
    let made = reading_made systems listed old new r does in
    reading_is systems listed made.0 made.1 r sealed one sizes made.2 made.3 made.4 made.5

-- it is over these systems
pub reading_over : (systems : List SystemValue) (listed : Branching) (old new : StepLog) (r : RelationValue) → DoesReading systems listed old (Ok r) new → r.systems ≡ systems
reading_over systems listed old new r does = (reading_made systems listed old new r does).5.systems_are
