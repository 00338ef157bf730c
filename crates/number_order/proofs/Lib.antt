pub mod KeptLemmas
pub mod OrderLemmas
pub mod PairLemmas
pub mod ZeroLemmas
pub mod OrderWidthLemmas
