pub mod Positional
pub mod Carries
pub mod BaseLaws
