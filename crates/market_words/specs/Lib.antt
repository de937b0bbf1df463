pub mod Words
pub mod Passed
pub mod Command
