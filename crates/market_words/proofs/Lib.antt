mod Examples
pub mod Rows
pub mod Walked
pub mod Entered
pub mod Numbers
pub mod Commands
pub mod Spelling
