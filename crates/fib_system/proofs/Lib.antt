mod SparseLemmas
mod WeightLemmas
mod SumLemmas
mod AdderLemmas
mod TableLemmas
mod KeyTransitionsBy
