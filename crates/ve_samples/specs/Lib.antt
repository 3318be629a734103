pub use Rattle.model_items.specs.Plain
pub mod CitesNothing
