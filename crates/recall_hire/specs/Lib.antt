pub mod Crowds
pub mod Slots
pub mod Staffed
pub mod Shared
