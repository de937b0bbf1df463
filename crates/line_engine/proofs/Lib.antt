pub mod Cut
pub mod Folds
pub mod Handed
pub mod Taking
pub mod Feeding
pub mod Passing
pub mod Running
pub mod Whole
