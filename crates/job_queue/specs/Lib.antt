pub mod Jobs
pub mod Views
pub mod Seen
pub mod Records
pub mod Rule
