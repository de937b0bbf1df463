pub mod Crossing
mod Seats
mod Fronts
mod Alone
mod Scripts
