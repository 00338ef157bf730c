pub mod ValidWords
pub mod RepresentedWords
pub mod OneRegex
pub mod RelationLemmas
pub mod OneRelation
pub mod OneLanguages
