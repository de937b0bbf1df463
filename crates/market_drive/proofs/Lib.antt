pub mod Queues
pub mod Sums
pub mod Fed
pub mod Once
pub mod Openings
pub mod Endings
mod Examples
pub mod Requests
pub mod Allotments
pub mod Jobs
