pub use Rattle.base_types.specs.Limits
pub use Rattle.base_types.specs.Fields
pub mod Kinds
