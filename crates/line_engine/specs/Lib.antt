pub mod Lines
pub mod Rule
pub mod Input
pub mod Pieces
pub mod Reading
