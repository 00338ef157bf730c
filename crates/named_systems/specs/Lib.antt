-- Definitions that the contracts cite, in reading order.
pub mod BuiltIn
pub mod NamedSystems
pub mod SystemViews
pub mod KnownSystems
pub mod SealedSystems
pub mod TrackSystems
