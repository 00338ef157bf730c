pub mod ListLemmas
pub mod PowerLemmas
pub mod LeastLemmas
pub mod ReachedLemmas
pub mod KindLemmas
pub mod WordLemmas
pub mod OnePromotion
