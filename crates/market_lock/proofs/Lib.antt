mod Counting
mod Fronts
pub mod Tiles
mod Seats
mod Steps
mod Entries
mod Calls
mod Opened
mod Endless
mod Meeting
pub mod Crossing
mod Ending
mod Serving
