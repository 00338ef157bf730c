-- Definitions that the contracts cite, in reading order.
pub mod Codes
pub mod Languages
pub mod Replies
pub mod Turns
pub mod Runs
pub mod Printed
pub mod Ends
pub mod Counted
pub mod TextRuns
pub mod Laws
pub mod Prefixes
-- what functions inside the crate do
pub mod Tallies
pub mod Handing
pub mod Coming
pub mod Flows
pub mod Taking
