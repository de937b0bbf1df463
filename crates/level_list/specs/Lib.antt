pub use Rattle.market_types.specs.Bits
pub use Rattle.market_types.specs.Rows
