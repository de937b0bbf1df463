pub mod Values
pub mod Outcome
pub mod Gathering
