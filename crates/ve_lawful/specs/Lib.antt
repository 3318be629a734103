pub use Rattle.model_items.specs.Law
pub use Rattle.ve_base.specs.Limits
pub mod Stack
pub mod Uncited
