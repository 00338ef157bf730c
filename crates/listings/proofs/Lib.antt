pub mod TrackLemmas
pub mod WordLineLemmas
pub mod NextLemmas
pub mod OneListing
