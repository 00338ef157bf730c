-- Lemmas, in reading order.
pub mod DrawnCommands
