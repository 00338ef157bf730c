pub mod StateClasses
pub mod BareLemmas
pub mod TargetLemmas
pub mod BackwardLemmas
pub mod ReversalLemmas
pub mod SameFunctions
pub mod FaultLemmas
