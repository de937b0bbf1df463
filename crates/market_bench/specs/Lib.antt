pub mod Faults
pub mod Repeated
pub mod Replies
pub mod Stages
pub mod Table
pub mod Turns
