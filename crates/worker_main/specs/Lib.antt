pub mod Stations
pub mod Turns
pub mod Books
pub mod Steps
