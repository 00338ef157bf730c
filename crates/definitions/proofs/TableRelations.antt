-- The steps of a table make the relation that holds of the numbers of which the table does.
use Rattle.std.proofs.Common.{◌≡◌, ◌↔◌, inl, inr, ℕ, ◌+◌, Bool, List, [], ◌∷◌, length, Ok, refl, sym, ap, ◌∙◌, subst, IsTrue, arith}
use Rattle.std.specs.List.{AllByRecursion}
use Rattle.std.proofs.lemmas.List.{length-map}
use Rattle.digit_tuple.specs.Automaton.{Branching}
use Rattle.digit_tuple.specs.Paddings.{in_order}
use Rattle.digit_tuple.specs.Steps.{StepLog}
use Rattle.digit_tuple.specs.declared.step_fault.StepFault.TheVariants.{Letters, Memory}
use Rattle.automaton_steps.proofs.ThenAnswers.{equal_value, no_fault}
use Rattle.dfa_reading.specs.Headers.{Header, Truth, Systems, Sets}
use Rattle.dfa_reading.specs.Listed.{Listed}
use Rattle.num_system.specs.Sealed.{SystemValue, system_of, IsSealed}
use Rattle.number_relations.specs.Comparisons.{IsTruth}
use Rattle.number_relations.specs.Readings.{DoesReading}
use Rattle.num_system.specs.Tracks.{ShareDirection, systems_of, direction_of}
use Rattle.number_relations.specs.Relations.{IsRelation, RelationHolds, RelationValue}
use Rattle.num_system.proofs.HoldLemmas.{represented_count}
use Rattle.number_relations.proofs.ReadingLemmas.{reading_over, readings, readings_are}
use Rattle.definitions.specs.Files.{HasListedWord}
use Rattle.definitions.specs.TableSteps.{AreForTracks, DoesTableOf, HoldsBelowOver, IsTableOver}
use Rattle.definitions.specs.TableLaws.{TablesHold}
use Rattle.definitions.proofs.TableWords.{listed_words}

no_numbers : (ns : List ℕ) → length ns ≡ 0 → ns ≡ []
no_numbers [] none = refl
no_numbers (n ∷ ns) none = absurd (omega (arith, none))

-- a relation holds of as many numbers as it has systems
relation_count : (r : RelationValue) (ns : List ℕ) → RelationHolds r ns → length ns ≡ length r.systems
relation_count r ns (word, over, represents, accepted) = represented_count (systems_of r.systems) (in_order (direction_of r.systems) word) ns represents ∙ length-map r.systems system_of

-- a sentence holds of no numbers, where it is true
truth_holds : (value : Bool) (r : RelationValue) → IsTruth value r → (ns : List ℕ) → RelationHolds r ns ↔ (IsTrue value × (ns ≡ []))
truth_holds value r is ns = (there, back)
  where
    there : RelationHolds r ns → IsTrue value × (ns ≡ [])
    there holds =
        let none : ns ≡ [] = no_numbers ns (relation_count r ns holds ∙ ap length is.systems_are) in
        ((is.holds_of (λ name. 0)).0 (subst (RelationHolds r) none holds), none)

    back : IsTrue value × (ns ≡ []) → RelationHolds r ns
    back says = subst (RelationHolds r) (sym says.1) ((is.holds_of (λ name. 0)).1 says.0)

module _ (systems : List SystemValue) (listed : Listed) (old new : StepLog) (r : RelationValue) (sealed : AllByRecursion IsSealed systems) where
  -- a table over systems holds of as many numbers
  over_holds : (n : Branching) → ShareDirection systems → IsTableOver systems listed n → DoesReading systems n old (Ok r) new → (ns : List ℕ) → RelationHolds r ns ↔ HasListedWord (direction_of systems) (systems_of systems) listed ns
  over_holds n direction over reads ns =
      let words = listed_words (direction_of systems) (systems_of systems) listed n over.is_branching ns in
      let holds = readings systems n old new r ns sealed direction over.is_branching.sizes_are reads in (
        λ relation. words.0 ((holds (relation_count r ns relation ∙ ap length (reading_over systems n old new r reads))).0 relation),
        λ has. (holds (represented_count (systems_of systems) (in_order (direction_of systems) has.word) ns has.represents ∙ length-map systems system_of)).1 (words.1 has),
      )

  table_of : (header : Header) → AreForTracks header systems → DoesTableOf header systems listed old (Ok r) new
      → IsRelation r × (r.systems ≡ systems) × ((ns : List ℕ) → RelationHolds r ns ↔ HoldsBelowOver header systems listed ns)
  table_of (Truth value) tracks (inl out) = absurd (no_fault r Memory out)
  table_of (Truth value) tracks (inr (s, is, given)) =
      let made : IsTruth value r = subst (IsTruth value) (sym (equal_value r s given.0)) is in
      (made.relation, made.systems_are ∙ sym tracks, truth_holds value r made)
  table_of (Systems names) tracks (inl large) = absurd (no_fault r (Letters (length old.lines + 1)) large.refused)
  table_of (Systems names) tracks (inr (inl out)) = absurd (no_fault r Memory out)
  table_of (Systems names) tracks (inr (inr (n, over, reads))) =
      (readings_are systems n old new r sealed tracks.1 over.is_branching.sizes_are reads, reading_over systems n old new r reads, over_holds n tracks.1 over reads)
  table_of (Sets sets) tracks steps = absurd tracks

pub table_holds : TablesHold
table_holds systems listed old new r are steps =
    let is = table_of systems listed old new r are.sealed listed.header are.tracks steps in
    record { relation = is.0; systems_are = is.1; holds = is.2 }
