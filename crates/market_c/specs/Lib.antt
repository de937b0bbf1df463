pub mod Asked
pub mod Codes
pub mod Endings
pub mod Held
pub mod HeldJournal
pub mod Journals
pub mod Opened
pub mod Views
