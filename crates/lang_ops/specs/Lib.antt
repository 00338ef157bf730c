-- Definitions that the contracts cite, in reading order.
pub mod Rests
pub mod Concatenation
pub mod Star
pub mod Pairs
pub mod OneWidth
pub mod ConcatSteps
pub mod StarSteps
pub mod ProductSteps
pub mod Laws
pub mod LinkedRows
pub mod ShiftedRows
pub mod ConcatTables
pub mod StarTables
pub mod PairKeys
