-- What the relation of the places holds of at which a word's letter compares with a given one.
use Rattle.std.proofs.Common.{◌↔◌, ℕ, ℤ, List}
use Rattle.digit_tuple.specs.Deterministic.{Automaton}
use Rattle.digit_tuple.specs.Paddings.{in_order}
use Rattle.numeration.specs.Relations.{HoldsOf}
use Rattle.num_system.specs.Tracks.{systems_of, direction_of}
use Rattle.num_system.proofs.HoldLemmas.{holds_representation, represented_count, representation_holds}
use Rattle.num_system.proofs.SealedLemmas.{are_systems}
use Rattle.num_system.specs.declared.comparison.Comparison.{Comparison}
use Rattle.number_relations.specs.Relations.{HoldsOver}
use Rattle.word_output.specs.LetterSets.{ComparesLetters, IsLetterSet}
use Rattle.word_output.specs.Words.{WordValue, IsWordValue, HasLetter}
use Rattle.word_output.proofs.PlaceLaws.{letter_sets}

module _ (w : WordValue) (comparison : Comparison) (letter : ℤ) (d : Automaton) (is : IsWordValue w) (set : IsLetterSet comparison letter w.function d) where
  -- the word has a letter there that compares so
  abbrev HasSuchLetter : List ℕ → Type 0
  HasSuchLetter ns = (b : ℤ) × HasLetter w ns b × ComparesLetters comparison b letter

  set_holds : HoldsOf (direction_of w.systems) (systems_of w.systems) HasSuchLetter d
  set_holds = letter_sets w comparison letter d is set

  pub set_says : (ns : List ℕ) → HoldsOver w.systems d ns ↔ HasSuchLetter ns
  set_says ns = (representation_holds (direction_of w.systems) (systems_of w.systems) HasSuchLetter d set_holds ns, back)
    where
      back : HasSuchLetter ns → HoldsOver w.systems d ns
      back (b, (u, represents, at), compares) =
          holds_representation (direction_of w.systems) (systems_of w.systems) HasSuchLetter d set_holds (are_systems w.systems is.sealed) ns
          (represented_count (systems_of w.systems) (in_order (direction_of w.systems) u) ns represents.represents) (b, (u, represents, at), compares)
