-- What operations on automata of relations hold of, for relations by tests.
use Rattle.std.proofs.Common.{[]}
use Rattle.digit_tuple.specs.Deterministic.{accepts_of}
use Rattle.digit_tuple.proofs.TruthLemmas.{same_tests}
use Rattle.num_system.specs.Links.{Passes, ProductsHold, ComplementsHold, ValidPartsHold, ValidPartsRepresent, ProjectionsHold, SentencesHold}
use Rattle.num_system.proofs.NamedLinks.{in_product_holds}
use Rattle.num_system.proofs.NamedProjections.{named_projection_holds}
use Rattle.num_system.proofs.ValidityLinks.{complement_holds, valid_part_holds, valid_part_represents}
use Rattle.num_system.proofs.SentenceLinks.{sentence_holds}

pub products : ProductsHold
products direction ss op p q a b languages c count sizes first second bound among made =
    in_product_holds direction ss a b (Passes p) (Passes q) count sizes first second op languages bound among c.automaton made.sizes made.language

pub complements : ComplementsHold
complements direction ss p a languages c are holds made = complement_holds direction ss languages are a c.automaton made.sizes (Passes p) holds made.language

pub valid_parts : ValidPartsHold
valid_parts direction ss p a languages c are holds made = valid_part_holds direction ss languages are a c.automaton made.sizes made.language (Passes p) holds

pub represented_parts : ValidPartsRepresent
represented_parts direction ss a languages c systems are sizes ignores made = valid_part_represents direction ss languages are a c.automaton made.sizes made.language systems sizes ignores

pub projections : ProjectionsHold
projections direction ss p a track c are count holds made = named_projection_holds direction ss are a track count (Passes p) holds c made

pub sentences : SentencesHold
sentences direction p d holds = same_tests (accepts_of d []) (p []) (sentence_holds direction (Passes p) d holds [] tt)
