pub mod ImageLemmas
pub mod ProjectionLemmas
pub mod WidthLaws
pub mod FlagLemmas
