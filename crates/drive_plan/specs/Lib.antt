pub mod Reading
pub mod Tasks
pub mod Plans
pub mod Format
pub mod Sections
