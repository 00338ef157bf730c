use Rattle.product_op.proofs.side_by_side.tracked_side_by_side.Goals as goal

pub combined_side_by_side-requires-clause-readers : goal.combined_side_by_side-requires-clause-readers
combined_side_by_side-requires-clause-readers c = c.requires.readers

pub combined_side_by_side-requires-clause-canonical : goal.combined_side_by_side-requires-clause-canonical
combined_side_by_side-requires-clause-canonical c = c.requires.canonical
