pub use Rattle.ve_tx.specs.Entry
pub use Rattle.ve_tx.specs.Parcel
pub mod Stacks
