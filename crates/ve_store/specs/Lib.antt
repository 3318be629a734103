pub use Rattle.ve_base.specs.Limits
pub mod Following
pub mod HashInput
pub mod Laws
pub mod Marked
