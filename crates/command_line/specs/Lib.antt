-- Definitions that the contracts cite, in reading order.
pub mod Words
pub mod WordReading
pub mod Program
