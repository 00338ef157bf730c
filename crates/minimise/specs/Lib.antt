pub mod Residuals
pub mod Canonical
pub mod Tracked
pub mod Quotient
pub mod QuotientLaws
