pub mod TableShifts
pub mod SameSystems
pub mod KeptLemmas
