pub use Rattle.model_items.specs.Plain
pub use Rattle.ve_tx.specs.Operation
pub use Rattle.ve_tx.specs.Cites
pub mod NoValues
