use Rattle.std.proofs.Common.{◌∙◌}
use Rattle.base_change.proofs.CopyLemmas.{copy_is}
use Rattle.base_change.proofs.copied.copied.Goals as goal

pub returns : goal.returns
returns c =
    copy_is c.args.function.now c.dfa.result.now c.deref.result.now c.of_states.result c.dfa.ensures.function c.dfa.ensures.value (c.deref.ensures.value ∙ c.in_ok-outputs.ensures.outputs)
    c.of_states.ensures.function c.of_states.ensures.sizes c.of_states.ensures.letters
