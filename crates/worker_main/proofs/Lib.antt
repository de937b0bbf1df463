pub mod Lists
pub mod Takers
pub mod Counts
pub mod Calls
pub mod Steps
