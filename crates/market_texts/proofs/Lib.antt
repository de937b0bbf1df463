mod TextRows
pub mod Numbers
pub mod Cuts
pub mod Words
pub mod Letters
pub mod Counts
pub mod Written
pub mod Digits
pub mod Views
pub mod Decimals
pub mod Levels
pub mod Read
pub mod Spelled
pub mod Laws
