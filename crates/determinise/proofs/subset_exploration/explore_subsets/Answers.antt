use Rattle.determinise.proofs.subset_exploration.explore_subsets.Goals as goal

pub explore-requires-clause-graph : goal.explore-requires-clause-graph
explore-requires-clause-graph c = (c.has_few_words.ensures.table, c.requires.first)
