pub mod Callers
pub mod Rooms
pub mod Works
pub mod Members
pub mod Written
pub mod Scripts
