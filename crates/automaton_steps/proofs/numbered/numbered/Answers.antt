use Rattle.std.proofs.Common.{◌∙◌, ap, sym, subst, arith, length}
use Rattle.digit_tuple.specs.Names.{AreDistinct}
use Rattle.automaton_steps.proofs.TrackNumbers.{length-track_numbers, numbers_distinct}
use Rattle.automaton_steps.proofs.numbered.numbered.Goals as goal

pub of_canonical-requires-clause-count : goal.of_canonical-requires-clause-count
of_canonical-requires-clause-count c = ap length c.in_ok-names.ensures ∙ length-track_numbers c.tracks.result ∙ c.tracks.ensures.value ∙ ap length c.alphabet.ensures.sizes

pub of_canonical-requires-clause-distinct : goal.of_canonical-requires-clause-distinct
of_canonical-requires-clause-distinct c = subst AreDistinct (sym c.in_ok-names.ensures) (numbers_distinct c.tracks.result (omega (arith, c.tracks.ensures.value, c.tracks.ensures.alphabet.tracks)))
