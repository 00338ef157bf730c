-- Definitions that the contracts cite, in reading order.
pub mod Tracks
pub mod Plans
pub mod TermPlans
pub mod ArgumentPlans
pub mod Means
pub mod Linear
pub mod Makings
pub mod PlanCode
pub mod Planning
pub mod TermPlanning
pub mod PlanLists
