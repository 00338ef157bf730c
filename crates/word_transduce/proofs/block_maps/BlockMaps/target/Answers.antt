use Rattle.std.proofs.Common.{◌+◌, ◌*◌, slice_index, ap, ◌∙◌}
use Rattle.digit_tuple.specs.Deterministic.{states_of}
use Rattle.word_transduce.proofs.StateLemmas.{target_at}
use Rattle.word_transduce.proofs.block_maps.BlockMaps.target.Goals as goal

pub returns : goal.returns
returns c =
    let d = c.args.self.now.function.now.automaton in
    let targets = c.args.self.now.targets.now in
    ap (λ n. slice_index targets (c.args.digit * n + c.args.state)) (c.states.ensures.value ∙ ap states_of c.dfa.ensures.value)
    ∙ target_at d targets c.args.digit c.args.state c.requires.graph.targets_are c.requires.digit c.requires.state
