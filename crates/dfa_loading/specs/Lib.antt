pub mod Places
pub mod Loading
pub mod Headers
