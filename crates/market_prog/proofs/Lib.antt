pub mod Telling
pub mod Told
pub mod Answered
pub mod Runs
pub mod Explaining
pub mod History
pub mod Journaling
pub mod Drawn
mod DriveExamples
pub mod Driven
