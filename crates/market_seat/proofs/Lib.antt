pub mod Crossing
mod Fresh
