-- Representations of places over sealed systems.
use Rattle.std.proofs.Common.{◌≡◌, ℕ, true, List, length, sym, ◌∙◌, subst}
use Rattle.std.specs.List.{AllByRecursion}
use Rattle.std.proofs.lemmas.List.{length-map}
use Rattle.digit_tuple.specs.Letters.{IsWord}
use Rattle.digit_tuple.specs.Paddings.{in_order, strip}
use Rattle.digit_tuple.specs.declared.direction.Direction.{Direction}
use Rattle.digit_tuple.proofs.PaddingLemmas.{IsWord-in_order}
use Rattle.product_op.specs.Validity.{is_valid}
use Rattle.numeration.specs.Systems.{AreSystems, System}
use Rattle.numeration.specs.Representation.{Represents, letters_in, sizes_of}
use Rattle.numeration.proofs.RepresentLemmas.{representations, represents-without_zeros}
use Rattle.num_system.specs.Sealed.{IsSealed, SystemValue, system_of}
use Rattle.num_system.specs.Tracks.{ShareDirection, languages_of, systems_of, direction_of}
use Rattle.num_system.proofs.HoldLemmas.{representation_of}
use Rattle.num_system.proofs.SealedLemmas.{are_systems, languages_are}
use Rattle.num_system.proofs.ValidWords.{represented_from, represented_to}
use Rattle.automaton_steps.proofs.DirectionLemmas.{same_strip}
use Rattle.word_output.specs.Words.{RepresentsPlace}
use Rattle.word_output.proofs.StripLemmas.{IsWord-stripped, in_order-strip}

module _ (systems : List SystemValue) (sealed : AllByRecursion IsSealed systems) (one : ShareDirection systems) where
  abbrev direction : Direction
  direction = direction_of systems

  abbrev ss : List System
  ss = systems_of systems

  are : AreSystems ss
  are = are_systems systems sealed

  -- a valid word represents a place
  pub place_of_valid : (w : List ℕ) → IsWord (letters_in ss) w → is_valid (sizes_of ss) (languages_of systems) w ≡ true → (ns : List ℕ) × RepresentsPlace systems ns w
  place_of_valid w over valid =
      let found = represented_from direction ss (languages_of systems) (languages_are direction systems sealed one) w valid in
      (found.0, record { over = over; represents = found.1 })

  -- and a word that represents a place is valid
  pub valid_of_place : (ns w : List ℕ) → RepresentsPlace systems ns w → is_valid (sizes_of ss) (languages_of systems) w ≡ true
  valid_of_place ns w represented = represented_to direction ss (languages_of systems) (languages_are direction systems sealed one) w ns represented.represents

  -- representations of a place differ in leading zeros alone
  pub one_stripped : (ns w u : List ℕ) → RepresentsPlace systems ns w → RepresentsPlace systems ns u → strip direction w ≡ strip direction u
  one_stripped ns w u first second =
      same_strip direction u w
      ((representations ss (in_order direction u) (in_order direction w) ns are (IsWord-in_order direction (letters_in ss) u second.over) (IsWord-in_order direction (letters_in ss) w first.over) second.represents).0 first.represents)

  -- without these a word represents the same
  pub stripped_represents : (ns w : List ℕ) → RepresentsPlace systems ns w → RepresentsPlace systems ns (strip direction w)
  stripped_represents ns w represented = record {
    over = IsWord-stripped direction (letters_in ss) w represented.over;
    represents = subst (λ (v : List ℕ). Represents ss v ns) (sym (in_order-strip direction w)) ((represents-without_zeros ss (in_order direction w) ns are).0 represented.represents);
  }

  -- each place has a representation
  pub place_represented : (ns : List ℕ) → length ns ≡ length systems → (w : List ℕ) × RepresentsPlace systems ns w
  place_represented ns count =
      let found = representation_of direction ss ns are (count ∙ sym (length-map systems system_of)) in
      (found.0, record { over = found.1; represents = found.2 })
