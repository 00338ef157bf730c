use Rattle.lang_ops.proofs.concat.first_states.Goals as goal

pub accepting-requires : goal.accepting-requires
accepting-requires c = c.requires.first.table.initial
