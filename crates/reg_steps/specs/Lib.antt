-- Definitions that the contracts cite, in reading order.
pub mod RegexSteps
pub mod RelationSteps
pub mod Relations
pub mod Laws
