pub mod Memory
pub mod Allotted
pub mod Sound
pub mod Shown
pub mod Divided
pub mod Ahead
pub mod Visits
pub mod Moves
