-- Definitions that the contracts cite, in reading order.
pub mod ListedLines
pub mod Questions
pub mod Laws
