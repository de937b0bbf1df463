pub use Rattle.market_types.specs.Bits
pub use Rattle.wide_rows.specs.Ways
pub mod Arenas
pub mod Changed
pub mod Held
pub mod Store
