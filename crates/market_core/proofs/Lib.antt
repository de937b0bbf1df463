mod Numbers
mod Allotted
mod Ahead
mod Steps
mod Order
mod Runs
pub mod Moved
mod Staffed
mod Totals
mod Assigned
mod LevelWalk
mod InNeed
mod Listing
mod Seats
mod Examples
pub mod Crossing
mod Meters
mod Shares
