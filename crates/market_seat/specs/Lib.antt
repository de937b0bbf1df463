pub mod Answered
pub mod Seated
