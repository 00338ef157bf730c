use Rattle.std.proofs.Common.{length, ap, ◌∙◌}
use Rattle.std.proofs.lemmas.List.FromFn.{length-map-range_with_len}
use Rattle.digit_tuple.specs.Deterministic.{states_of, accepting_of}
use Rattle.dfa_text.specs.RelationText.{output_listed}
use Rattle.dfa_text.proofs.relation_text.print_within.Goals as goal

pub print_word_within-requires-clause-outputs : goal.print_word_within-requires-clause-outputs
print_word_within-requires-clause-outputs c = ap length (c.deref.ensures.value ∙ c.in_ok-outputs.ensures) ∙ length-map-range_with_len (λ q. output_listed (accepting_of c.args.d.now q)) 0 (states_of c.args.d.now)
