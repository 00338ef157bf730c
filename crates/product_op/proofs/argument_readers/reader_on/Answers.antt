use Rattle.std.proofs.Common.{sym, ◌∙◌}
use Rattle.product_op.proofs.argument_readers.reader_on.Goals as goal

pub new-requires-clause-own : goal.new-requires-clause-own
new-requires-clause-own c = c.alphabet.ensures.sizes ∙ sym c.requires.sizes
