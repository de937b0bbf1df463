pub mod Notes
pub mod Records
