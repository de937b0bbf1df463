pub mod Columns
pub mod Explanation
