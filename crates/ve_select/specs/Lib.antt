pub use Rattle.model_items.specs.Plain
pub use Rattle.model_edit.specs.Next
pub use Rattle.model_edit.specs.Translate
pub use Rattle.ve_tx.specs.Operation
pub mod Passed
pub mod Runs
pub mod Passing
