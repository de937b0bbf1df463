pub mod Chronicled
pub mod Answered
pub mod Places
pub mod Faults
pub mod Kept
pub mod Pasts
pub mod Falls
pub mod Parts
