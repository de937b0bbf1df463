mod Longer
mod Placed
mod KeptAfter
mod Rows
pub mod Crossing
mod Answering
