-- Definitions that the contracts cite, in reading order.
pub mod Assignments
pub mod Values
pub mod Truth
pub mod Tests
pub mod FreeVariables
pub mod Given
pub mod Bounded
pub mod Laws
