-- Definitions that the contracts cite.
pub mod Names
pub mod UserNames
