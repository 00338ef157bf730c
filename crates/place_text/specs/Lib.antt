-- Definitions that the contracts cite, in reading order.
pub mod Lexemes
pub mod Grammar
pub mod Faults
pub mod Stages
pub mod Readings
pub mod Laws
