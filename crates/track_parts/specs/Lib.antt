pub mod Runs
pub mod Spans
pub mod TrackParts
