mod ByStamp
mod Digits
mod Found
mod LevelRows
mod ByNumber
mod Stored
mod Indices
mod Search
mod Once
mod InPlace
pub mod Crossing
