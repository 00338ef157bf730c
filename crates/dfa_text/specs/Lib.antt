pub mod Parts
pub mod RelationText
pub mod LinePrefixes
pub mod Meaning
pub mod RelationLaws
pub mod Lists
