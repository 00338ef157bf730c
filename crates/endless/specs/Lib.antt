-- Definitions that the contracts cite, in reading order.
pub mod LanguageLaws
pub mod Links
pub mod Counts
