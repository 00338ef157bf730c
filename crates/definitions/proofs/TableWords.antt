-- The branching automaton of what is listed accepts representations of the numbers of which this holds.
use Rattle.std.proofs.Common.{◌↔◌, ℕ, List}
use Rattle.digit_tuple.specs.Automaton.{Branching}
use Rattle.digit_tuple.specs.declared.direction.Direction.{Direction}
use Rattle.dfa_reading.specs.Branching.{IsBranching}
use Rattle.dfa_reading.specs.Listed.{Listed}
use Rattle.dfa_reading.proofs.Words.{accepts_listed}
use Rattle.dfa_reading.proofs.TupleWords.{tuples_of, word_of_tuples}
use Rattle.numeration.specs.Representation.{sizes_of}
use Rattle.numeration.specs.Systems.{System}
use Rattle.number_relations.specs.Readings.{IsListedOf}
use Rattle.definitions.specs.Files.{HasListedWord}

module _ (direction : Direction) (ss : List System) (listed : Listed) (n : Branching) (is : IsBranching (sizes_of ss) listed n) where
  to_tuples : (ns : List ℕ) → IsListedOf direction ss n ns → HasListedWord direction ss listed ns
  to_tuples ns (word, over, represents, accepts) =
      let found = tuples_of (sizes_of ss) word over in
      record {
        tuples = found.0;
        word = word;
        letters = found.1;
        represents = represents;
        accepts = (accepts_listed (sizes_of ss) listed n is found.0 word found.1).0 accepts;
      }

  from_tuples : (ns : List ℕ) → HasListedWord direction ss listed ns → IsListedOf direction ss n ns
  from_tuples ns has =
      (has.word, word_of_tuples (sizes_of ss) has.tuples has.word has.letters, has.represents, (accepts_listed (sizes_of ss) listed n is has.tuples has.word has.letters).1 has.accepts)

  pub listed_words : (ns : List ℕ) → IsListedOf direction ss n ns ↔ HasListedWord direction ss listed ns
  listed_words ns = (to_tuples ns, from_tuples ns)
