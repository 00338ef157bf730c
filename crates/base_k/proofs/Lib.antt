pub mod ValueLemmas
mod CarryLemmas
mod AdderLemmas
mod TableLemmas
pub mod BaseAlphabets
