mod Seats
mod Remainders
mod Tables
pub mod Shares
pub mod Searches
pub mod Listings
pub mod Askers
pub mod Single
