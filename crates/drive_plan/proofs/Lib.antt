pub mod Tasks
pub mod Sectioned
mod Examples
