use Rattle.std.proofs.Common.{sym, ◌∙◌, eq-eqb}
use Rattle.std.proofs.lemmas.Bool.{eqb-true}
use Rattle.pad_rename.proofs.NoWordLemmas.{dead_from_sink, sink_from_dead}
use Rattle.lang_ops.proofs.emptiness.accepts_nothing.Goals as goal

pub returns : goal.returns
returns c = let d = c.args.d.now in (
  (λ is. dead_from_sink d (sym c.initial_state.ensures ∙ eqb-true c.initial_state.result c.states.result is ∙ c.states.ensures.value)),
  (λ dead. eq-eqb c.initial_state.result c.states.result (c.initial_state.ensures ∙ sink_from_dead d c.requires dead ∙ sym c.states.ensures.value)),
)
