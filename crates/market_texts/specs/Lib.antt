pub mod Texts
pub mod Reading
pub mod Fields
pub mod Cuts
pub mod Written
pub mod Script
