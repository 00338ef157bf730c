-- What an action of a command does to a store.
pub mod Writes
