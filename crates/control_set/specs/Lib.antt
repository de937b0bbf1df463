pub mod Controls
pub mod Market
