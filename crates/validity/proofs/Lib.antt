pub mod ValidityLemmas
pub mod WidthLaws
