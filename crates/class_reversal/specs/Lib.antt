pub mod ReversedClasses
pub mod Laws
pub mod BackwardClasses
pub mod BackwardLaws
