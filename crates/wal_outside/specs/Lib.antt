-- Definitions that the contracts cite, in reading order.
pub mod Causes
pub mod Folders
pub mod Files
pub mod Places
pub mod Views
pub mod Calls
pub mod Answers
pub mod Sending
pub mod Schedules
pub mod Shelves
pub mod Memory
